-- `sheets::sum_runs` meets its contract: the first sum that is none ends it, or eight turns have set all of them.
-- Assumes nothing.
use Rattle.std.proofs.Common.{◌∙◌, arith, rules}
use Rattle.sheets.specs.Steps.{runs_none, runs_set}
use Rattle.sheets.proofs.sum_runs.Goals as goal

pub returns-in_err-r : goal.returns-in_err-r
returns-in_err-r c =
    let a = c.args in
    c.from_residual.ensures ∙ runs_none a.p a.q c.loop-i.i (omega arith) (search rules)

pub returns : goal.returns
returns c =
    let a = c.args in
    let l = c.loop-i in
    runs_set a.p a.q l.i (omega arith) l.invariant.0 l.invariant.1
