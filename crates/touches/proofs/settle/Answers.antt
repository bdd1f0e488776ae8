-- `touches::settle` meets its contract: the arms are the definition's clauses.
-- Assumes nothing.
use mathlib.Core.Path.{◌∙◌}
use Rattle.touches.specs.Touched.{touched}
use Rattle.touches.proofs.settle.Goals as goal

pub returns-in-Keep : goal.returns-in-Keep
unfolding touched
returns-in-Keep c = rw c.in-Keep.is

pub returns-in-Place : goal.returns-in-Place
unfolding touched
returns-in-Place c = c.put_from.ensures ∙ rw c.in-Place.is

pub returns-in-Tail : goal.returns-in-Tail
unfolding touched
returns-in-Tail c = c.zeros_from.ensures ∙ rw c.in-Tail.is

pub returns-in-All : goal.returns-in-All
unfolding touched
returns-in-All c = c.zeros_from-in-All.ensures ∙ rw c.in-All.is
