-- The counters of a run among one another. What follows where a whole run has at most 255 captures is proved in proofs/Few.antt.
-- Assumes nothing.
use Rattle.std.specs.Prelude.{◌≤◌}
use Rattle.sources.specs.Source.{Counters}

-- the captures since the last header, and the most in an attempt, are among the changes since the first command
pub record Among (c : Counters) : Type 0 where
  pub since : c.captures ≤ c.changes
  pub most : c.most_in_attempt ≤ c.changes
