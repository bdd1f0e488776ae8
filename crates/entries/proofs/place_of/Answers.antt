-- `entries::place_of` meets its contract: where the ending has no place, the run has none.
-- Assumes nothing.
use Rattle.std.proofs.Common.{◌∙◌}
use Rattle.entries.specs.Steps.{none_picked}
use Rattle.entries.proofs.place_of.Goals as goal

pub returns-in_err-place : goal.returns-in_err-place
returns-in_err-place c = c.from_residual.ensures ∙ none_picked _ _ c.in_err-place.ensures
