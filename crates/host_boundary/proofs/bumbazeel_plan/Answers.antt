-- `host_boundary::bumbazeel_plan` meets its contract: the plan's answer, and what it gives written.
-- Assumes nothing.
use Rattle.std.specs.Prelude.{◌≡◌, Err}
use Rattle.std.proofs.Common.{◌∙◌}
use Rattle.header.specs.Default.{default_fields}
use Rattle.completions.specs.Plan.{why_number, planned}
use Rattle.planned_layout.specs.Layout.{planned_bytes}
use Rattle.host_boundary.specs.Steps.{plan_is}
use Rattle.host_boundary.proofs.bumbazeel_plan.Goals as goal

pub returns-in-Ok : goal.returns-in-Ok
returns-in-Ok c =
    let a = c.args in
    plan_is a.page a.area a.chunk a.room a.h.now c.read_caps.ensures c.in-Ok.ensures (c.write_planned.ensures _)

pub returns-in-Err : goal.returns-in-Err
returns-in-Err c =
    let a = c.args in
    let why = c.in-Err.why in
    let w : c.write_planned-in-Err.result ≡ planned_bytes a.page (planned (Err why)) =
    c.write_planned-in-Err.ensures (why_number why) ∙ rw (c.fault.ensures, default_fields c.default-nothing.result c.default-nothing.ensures) in
    let h = plan_is a.page a.area a.chunk a.room a.h.now c.read_caps.ensures c.in-Err.ensures w in
    (c.number.ensures ∙ h.0, h.1)
