-- The default of a header's fields is what stands in the place of a bad header's: every field is zero.
-- Assumes nothing.
use Rattle.std.specs.Prelude.{ℕ, zero, suc, ◌+◌, ◌<◌, ◌≡◌, refl, List, [], ◌∷◌, length, get_or}
use Rattle.std.specs.Array.{AllOfLen}
use Rattle.std.proofs.Common.{arith}
use Rattle.copies.specs.Parts.{zeros}
use Rattle.header.specs.declared.Fields.{Fields}
use Rattle.header.specs.Header.{no_fields}

all_zero : (n : ℕ) (l : List ℕ) → length l ≡ n → ((i d : ℕ) → i < n → get_or l i d ≡ 0) → l ≡ zeros n
all_zero zero [] e f = refl
all_zero zero (x ∷ l) e f = absurd (omega arith)
all_zero (suc n) [] e f = absurd (omega arith)
all_zero (suc n) (x ∷ l) e f = rw (f 0 0 (omega arith), all_zero n l (omega arith) (λ i d h. f (suc i) d (omega arith)))

-- an array of the default of its items is zeros
zeros_of : (n : ℕ) (l : List ℕ) → AllOfLen (λ (x : ℕ). x ≡ 0) l n → l ≡ zeros n
zeros_of n l a = all_zero n l a.long a.at

pub default_fields : (f : Fields)
    → (f.page ≡ 0)
    × ((f.oui ≡ 0)
    × (AllOfLen (λ (x : ℕ). x ≡ 0) f.last 4
    × ((f.scope ≡ 0)
    × ((f.hostgeneration ≡ 0)
    × ((f.tcda ≡ 0)
    × ((f.controllergeneration ≡ 0)
    × AllOfLen (λ (x : ℕ). x ≡ 0) f.reason 128))))))
    → f ≡ no_fields
unfolding no_fields
default_fields f (p, (o, (l, (s, (h, (t, (c, r))))))) = rw (p, o, zeros_of 4 f.last l, s, h, t, c, zeros_of 128 f.reason r)
