-- Numbers one after another and a reason as bytes, and what stands in bytes from a place on.
-- Assumes nothing.
use Rattle.std.specs.Prelude.{ℕ, ◌+◌, ◌*◌, List, [], ◌∷◌, ◌++◌, map, get_or, take, drop}
use Rattle.std.specs.List.{range_with_len}
use Rattle.littleendian.specs.Numbers.{bytes_of, value_at}

-- four numbers as 16 bytes
abbrev pub fours_of : List ℕ → List ℕ
fours_of a = bytes_of 4 (get_or a 0 0) ++ bytes_of 4 (get_or a 1 0) ++ bytes_of 4 (get_or a 2 0) ++ bytes_of 4 (get_or a 3 0)

-- the four numbers in the 16 bytes of b from i on
abbrev pub fours_at : ℕ → List ℕ → List ℕ
fours_at i b = value_at 4 i b ∷ value_at 4 (i + 4) b ∷ value_at 4 (i + 8) b ∷ value_at 4 (i + 12) b ∷ []

-- the 128 bytes of a reason in b from i on
abbrev pub reason_at : ℕ → List ℕ → List ℕ
reason_at i b = take 128 (drop i b)

-- numbers one after another, n bytes each
abbrev pub numbers_of : {A : Type 0} → ℕ → (A → ℕ) → List A → List ℕ
numbers_of n f [] = []
numbers_of n f (x ∷ xs) = bytes_of n (f x) ++ numbers_of n f xs

-- the m values of the numbers in b from i on, n bytes each
abbrev pub values_at : {A : Type 0} → ℕ → (ℕ → A) → ℕ → ℕ → List ℕ → List A
values_at n f m i b = map (λ (k : ℕ). f (value_at n (i + k * n) b)) (range_with_len 0 m)
