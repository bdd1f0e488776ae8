-- A rule of a table, proved at all of its entries by one test that antt computes, one entry after the other.
-- Assumes nothing.
use mathlib.Core.Path.{◌≡◌}
use mathlib.Core.Bool.{Bool, true, ◌&&◌}
use mathlib.Core.List.{List, [], ◌∷◌}
use Prim.Native.Nat.{ℕ, zero, suc, ◌+◌, ◌<◌}
use native.Mathlib.Nat.{add-zero, zero-add, add-suc, suc-add, le_of_suc-le-suc, not-suc-le-zero}
use lib.ListN.{length, get_or}
use Rattle.choices.specs.Tests.{and_left, and_right}

-- the test f passes at each entry of the list and its place, counted from i
abbrev pub every : (ℕ → ℕ → Bool) → ℕ → List ℕ → Bool
every f i [] = true
every f i (x ∷ xs) = f i x && every f (suc i) xs

-- what passes at every entry, counted from i, passes at the k-th
from : (f : ℕ → ℕ → Bool) (xs : List ℕ) (i : ℕ) → every f i xs ≡ true → (k : ℕ) → k < length xs → f (i + k) (get_or xs k 0) ≡ true
from f [] i e k h = absurd (not-suc-le-zero h)
from f (x ∷ xs) i e zero h = rw add-zero (and_left (f i x) (every f (suc i) xs) e)
from f (x ∷ xs) i e (suc k) h =
    rw (add-suc, ← suc-add) (from f xs (suc i) (and_right (f i x) (every f (suc i) xs) e) k (le_of_suc-le-suc h))

-- the same counted from 0: the rule at each entry
pub at : (f : ℕ → ℕ → Bool) (xs : List ℕ) → every f 0 xs ≡ true → (k : ℕ) → k < length xs → f k (get_or xs k 0) ≡ true
at f xs e k h = rw zero-add at (from f xs 0 e k h)
