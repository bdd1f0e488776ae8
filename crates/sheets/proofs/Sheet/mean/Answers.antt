-- `sheets::Sheet::mean` meets its contract: divided once, where there is something to divide by.
-- Assumes nothing.
use Rattle.sheets.specs.Steps.{no_mean_lem, a_mean}
use Rattle.sheets.proofs.Sheet.mean.Goals as goal

pub returns-then-good-eq0 : goal.returns-then-good-eq0
returns-then-good-eq0 c = no_mean_lem c.args.self c.if-good-eq0.true

pub returns : goal.returns
returns c = a_mean c.args.self c.if-good-eq0.false
