-- `host_boundary::bumbazeel_step` meets its contract: a damaged state is refused, and any other step leaves what follows.
-- Assumes nothing.
use Rattle.std.proofs.Common.{ap, not, ◌∙◌}
use Rattle.host_boundary.specs.Boundary.{flag_of}
use Rattle.host_boundary.specs.Steps.{step_damaged, step_taken}
use Rattle.host_boundary.proofs.bumbazeel_step.Goals as goal

pub returns-then-not-state_intact : goal.returns-then-not-state_intact
returns-then-not-state_intact c =
    let a = c.args in
    step_damaged a.state.now (flag_of a.ok) a.data.now a.copy.now c.state_intact.ensures
    (ap not c.if-not-state_intact.true) c.write_next.ensures

pub returns : goal.returns
returns c =
    let a = c.args in
    let kind = c.kind_of.ensures ∙ rw c.numbered-told.ensures in
    step_taken a.state.now (flag_of a.ok) a.data.now a.copy.now c.state_intact.ensures (ap not c.if-not-state_intact.false)
    c.read_state.ensures c.step-x.ensures kind (c.state_after.ensures ∙ rw kind)
    (c.write_next-2.ensures ∙ rw c.numbered-told.ensures)
