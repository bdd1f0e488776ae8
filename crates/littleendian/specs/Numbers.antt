-- Little-endian numbers of any width, and what stands in bytes from a place on.
-- Assumes nothing.
use Rattle.std.specs.Prelude.{ℕ, zero, suc, ◌+◌, ◌*◌, ◌/◌, ◌%◌, List, [], ◌∷◌, get_or}

-- the n low bytes of x, the lowest first
abbrev pub bytes_of : ℕ → ℕ → List ℕ
bytes_of zero x = []
bytes_of (suc n) x = x % 256 ∷ bytes_of n (x / 256)

-- the number that these bytes are, the lowest first
abbrev pub value_of : List ℕ → ℕ
value_of [] = 0
value_of (b ∷ []) = b
value_of (b ∷ c ∷ bs) = b + 256 * value_of (c ∷ bs)

-- the number in the n bytes of b from i on
abbrev pub value_at : ℕ → ℕ → List ℕ → ℕ
value_at zero i b = 0
value_at (suc zero) i b = get_or b i 0
value_at (suc (suc n)) i b = get_or b i 0 + 256 * value_at (suc n) (suc i) b
