-- A row of tests that must all hold. `holds` computes to the left-nested `&&` that the code's chain of `&` makes, and a proof takes
-- the tests out of it again with `each`.
-- Assumes nothing.
use Rattle.std.specs.Prelude.{ℕ, zero, suc, ◌≡◌, refl, List, [], ◌∷◌, Bool, true, false, not, ◌&&◌, ◌||◌, get_or, eqb}
use Rattle.std.proofs.Common.{arith, eqb-true}
use Rattle.std.proofs.lemmas.Bool.{eqb-false}

-- the test t and all of the row
abbrev from : Bool → List Bool → Bool
from t [] = t
from t (u ∷ us) = from (t && u) us

-- every test of the row holds
unfoldable pub holds : List Bool → Bool
holds [] = true
holds (t ∷ ts) = from t ts

-- a test that holds and does not proves anything
pub clash : {A : Type 0} {t : Bool} → t ≡ true → t ≡ false → A
clash p q = let z : ◌≡◌ {A = ℕ} 0 1 = cc in absurd (omega arith)

-- a test holds or does not
pub by_test : {A : Type 0} (t : Bool) → (t ≡ true → A) → (t ≡ false → A) → A
by_test true f g = f refl
by_test false f g = g refl

-- two numbers are the same or not
pub same_or_not : {A : Type 0} (m n : ℕ) → (m ≡ n → A) → ((m ≡ n → ⊥) → A) → A
same_or_not m n f g = by_test (eqb m n) (λ e. f (eqb-true m n e)) (λ e. g (eqb-false m n e))

pub and_left : (a b : Bool) → a && b ≡ true → a ≡ true
and_left true b e = refl
and_left false b e = e

pub and_right : (a b : Bool) → a && b ≡ true → b ≡ true
and_right true b e = e
and_right false b e = clash e refl

pub or_cases : {A : Type 0} (a b : Bool) → a || b ≡ true → (a ≡ true → A) → (b ≡ true → A) → A
or_cases true b e f g = f refl
or_cases false b e f g = g e

-- `not a || b` is that b holds where a does
pub implied : (a b : Bool) → not a || b ≡ true → a ≡ true → b ≡ true
implied true b e h = e
implied false b e h = clash h refl

pub implies : (a b : Bool) → (a ≡ true → b ≡ true) → not a || b ≡ true
implies true b f = f refl
implies false b f = refl

from_first : (t : Bool) (us : List Bool) → from t us ≡ true → t ≡ true
from_first t [] e = e
from_first t (u ∷ us) e = and_left t u (from_first (t && u) us e)

from_each : (t : Bool) (us : List Bool) → from t us ≡ true → (i : ℕ) → get_or us i true ≡ true
from_each t [] e i = refl
from_each t (u ∷ us) e zero = and_right t u (from_first (t && u) us e)
from_each t (u ∷ us) e (suc i) = from_each (t && u) us e i

-- where all hold, the i-th holds
pub each : (ts : List Bool) → holds ts ≡ true → (i : ℕ) → get_or ts i true ≡ true
unfolding holds
each [] e i = refl
each (t ∷ ts) e zero = from_first t ts e
each (t ∷ ts) e (suc i) = from_each t ts e i
