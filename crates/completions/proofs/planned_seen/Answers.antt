-- `completions::planned_seen` meets its contract: each field is the plan's, and the generation is the byte.
-- Assumes nothing.
use Rattle.std.specs.Prelude.{ℕ, ◌≡◌, List}
use Rattle.header.specs.Header.{no_fields}
use Rattle.plans.specs.declared.Plan.{Plan}
use Rattle.completions.specs.Plan.{Planned, plan_by}
use Rattle.completions.specs.Completions.{generation_of, planned_seen}
use Rattle.completions.proofs.planned_seen.Goals as goal

by_plan : (p : Plan) (d : List ℕ) (x : Planned) (g : ℕ) → x ≡ plan_by p d → g ≡ generation_of p.page d
    → record { answer = x.answer; fault = x.fault; tcda = x.fields.tcda; generation = g; last = x.fields.last } ≡ planned_seen p d
unfolding planned_seen
by_plan p d x g e k = rw (e, k)

pub returns-in-Ok : goal.returns-in-Ok
returns-in-Ok c = by_plan c.args.p c.args.data.now _ _ c.in-Ok.ensures c.own_generation-generation.ensures

pub returns-in-Err : goal.returns-in-Err
unfolding no_fields
returns-in-Err c =
    rw (c.number.ensures, c.fault.ensures) (by_plan c.args.p c.args.data.now _ _ c.in-Err.ensures c.own_generation-generation.ensures)
