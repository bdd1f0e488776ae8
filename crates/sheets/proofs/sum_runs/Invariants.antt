-- After i turns the first i sums are totals, and stand in front.
-- Assumes nothing.
use Rattle.std.proofs.Common.{◌≡◌, ℕ, ◌<◌, true, get_or, replicate}
use Rattle.sheets.specs.Sheets.{fits}
use Rattle.sheets.specs.Turns.{turns}
use Rattle.sheets.specs.Steps.{set_sum}
use Rattle.sheets.proofs.sum_runs.Given as goal

abbrev pub invariant-loop-i : goal.invariant-loop-i
invariant-loop-i l = ((k : ℕ) → k < l.i → fits (get_or l.p k 0) (get_or l.q k 0) ≡ true) × (l.r ≡ turns (set_sum l.p l.q) (replicate 8 0) l.i)
