-- `completions::seen_of` meets its contract: each field is the check's, and the generation is the byte.
-- Assumes nothing.
use Rattle.std.specs.Prelude.{ℕ, ◌≡◌, List}
use Rattle.answers.specs.Answers.{success}
use Rattle.header.specs.Header.{no_fields, Checked, check_of}
use Rattle.plans.specs.declared.Plan.{Plan}
use Rattle.completions.specs.Completions.{generation_of, seen_of}
use Rattle.completions.proofs.seen_of.Goals as goal

by_check : (p : Plan) (d : List ℕ) (x : Checked) (g : ℕ) → x ≡ check_of p.page p.caps.da4s d → g ≡ generation_of p.page d
    → record { answer = success; fault = x.fault; tcda = x.fields.tcda; generation = g; last = x.fields.last } ≡ seen_of p d
unfolding seen_of
by_check p d x g e k = rw (e, k)

pub returns-in-Ok : goal.returns-in-Ok
returns-in-Ok c = by_check c.args.p c.args.data.now _ _ c.in-Ok.ensures c.own_generation-generation.ensures

pub returns-in-Err : goal.returns-in-Err
unfolding no_fields
returns-in-Err c = by_check c.args.p c.args.data.now _ _ c.in-Err.ensures c.own_generation-generation.ensures
