-- What a run's counters do: they only grow. That they do, and that the invariant holds all along a run, is proved in proofs/Turns.antt.
-- Assumes nothing.
use Rattle.std.specs.Prelude.{◌≤◌}
use Rattle.sources.specs.Source.{Counters}

-- each counter of b is a's or greater
pub record Grows (a b : Counters) : Type 0 where
  pub changes : a.changes ≤ b.changes
  pub most_in_attempt : a.most_in_attempt ≤ b.most_in_attempt
  pub lent_refusals : a.lent_refusals ≤ b.lent_refusals
