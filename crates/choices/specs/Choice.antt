-- Choosing by a test.
-- Assumes nothing.
use Rattle.std.specs.Prelude.{ℕ, ◌≤◌, Bool, true, false, List, [], ◌∷◌, ◌≡◌, refl, leb}
use Rattle.std.proofs.Common.{arith, leb-true, leb-false}

-- the first where the test holds, else the second
abbrev pub pick : {A : Type 0} → Bool → A → A → A
pick true a b = a
pick false a b = b

-- a yes or no as a number: one where the test holds, else none
abbrev pub one : Bool → ℕ
one t = pick t 1 0

-- the first of the row whose test holds, or what stands after the row: an order of refusals reads as its list
abbrev pub first_that : {A : Type 0} → List (Bool × A) → A → A
first_that [] last = last
first_that (r ∷ rs) last = pick r.0 r.1 (first_that rs last)

-- x is the first of the row: its test holds and none before it does; or no test holds, and x is what stands after the row
pub data First {A : Type 0} : List (Bool × A) → A → A → Type 0 where
  this : {r : Bool × A} {rs : List (Bool × A)} {last : A} → r.0 ≡ true → First (r ∷ rs) last r.1
  later : {r : Bool × A} {rs : List (Bool × A)} {last x : A} → r.0 ≡ false → First rs last x → First (r ∷ rs) last x
  none : {last : A} → First [] last last

pub first_that_lem : {A : Type 0} (rs : List (Bool × A)) (last : A) → First rs last (first_that rs last)
first_that_lem [] last = none
first_that_lem ((true, x) ∷ rs) last = this refl
first_that_lem ((false, x) ∷ rs) last = later refl (first_that_lem rs last)

-- the smaller of two numbers
abbrev pub smaller : ℕ → ℕ → ℕ
smaller a b = pick (leb a b) a b

-- the larger of two numbers
abbrev pub larger : ℕ → ℕ → ℕ
larger a b = pick (leb a b) b a

-- what holds of both choices holds of the choice
pub pick_cases : {A : Type 0} (P : A → Type 0) (t : Bool) {a b : A} → (t ≡ true → P a) → (t ≡ false → P b) → P (pick t a b)
pick_cases P true p q = p refl
pick_cases P false p q = q refl

pub smaller_left : (a b : ℕ) → smaller a b ≤ a
smaller_left a b = pick_cases (λ (x : ℕ). x ≤ a) (leb a b) (λ e. omega arith) (λ e. let h = leb-false a b e in omega arith)

pub smaller_right : (a b : ℕ) → smaller a b ≤ b
smaller_right a b = pick_cases (λ (x : ℕ). x ≤ b) (leb a b) (λ e. leb-true a b e) (λ e. omega arith)

pub larger_left : (a b : ℕ) → a ≤ larger a b
larger_left a b = pick_cases (λ (x : ℕ). a ≤ x) (leb a b) (λ e. leb-true a b e) (λ e. omega arith)

pub larger_right : (a b : ℕ) → b ≤ larger a b
larger_right a b = pick_cases (λ (x : ℕ). b ≤ x) (leb a b) (λ e. omega arith) (λ e. let h = leb-false a b e in omega arith)
