-- `touches::zeros_from` meets its contract: where the copy ends before the place nothing is written.
-- Assumes nothing.
use Rattle.std.proofs.Common.{sym}
use Rattle.std.proofs.Math.Nat.{lt_of_not-le}
use Rattle.touches.specs.Touched.{zeros_none}
use Rattle.touches.proofs.zeros_from.Goals as goal

pub returns-in_default : goal.returns-in_default
returns-in_default c = sym (zeros_none _ _ (lt_of_not-le c.in_default.ensures))
