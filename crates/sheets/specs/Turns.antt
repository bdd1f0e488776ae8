-- What a loop over eight numbers has come to after n turns: with n = 8 it computes to the whole row.
-- Assumes nothing.
use Rattle.std.specs.Prelude.{◌≡◌, ℕ, zero, suc, ◌+◌}
use Rattle.std.proofs.Common.{ap, ◌∙◌, add-one}

-- what n turns make of a, each by its number
abbrev pub turns : {A : Type 0} → (A → ℕ → A) → A → ℕ → A
turns f a zero = a
turns f a (suc n) = f (turns f a n) n

-- a turn more
pub turn : {A : Type 0} (f : A → ℕ → A) (a : A) (n : ℕ) {x y : A} → x ≡ turns f a n → y ≡ f x n → y ≡ turns f a (n + 1)
turn {A = A} f a n e g = rw (add-one n) (g ∙ ap (λ (z : A). f z n) e)

-- eight turns
pub turned : {A : Type 0} (f : A → ℕ → A) (a : A) (n : ℕ) {x : A} → n ≡ 8 → x ≡ turns f a n → x ≡ turns f a 8
turned {A = A} f a n h e = e ∙ ap (λ (k : ℕ). turns f a k) h
