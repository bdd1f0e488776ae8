-- Four numbers and their bytes are had back from each other.
-- Assumes nothing.
use Rattle.std.specs.Prelude.{ℕ, zero, suc, ◌+◌, ◌^◌, ◌<◌, ◌≡◌, refl, List, [], ◌∷◌, ◌++◌, length, get_or}
use Rattle.std.proofs.Common.{arith, ap, add-zero}
use Rattle.littleendian.specs.Numbers.{value_at}
use Rattle.littleendian.specs.Back.{value_back, run, run_all, join, Bytes, bytes_kept, value_small}
use Rattle.arrays.specs.Arrays.{fours_of, fours_at, values_at}

-- four numbers that four bytes each can hold
pub record Four (a : List ℕ) : Type 0 where
  pub four : length a ≡ 4
  pub each : (i : ℕ) → get_or a i 0 < 256 ^ 4

pub fours_back : (a : List ℕ) → Four a → fours_at 0 (fours_of a) ≡ a
fours_back a f =
    let a1 = value_back 4 (get_or a 0 0) (f.each 0) in
    let a2 = value_back 4 (get_or a 1 0) (f.each 1) in
    let a3 = value_back 4 (get_or a 2 0) (f.each 2) in
    let a4 = value_back 4 (get_or a 3 0) (f.each 3) in
    rw (a1, a2, a3, a4) (run_all 4 a f.four)

pub fours_kept : (i : ℕ) (b : List ℕ) → Bytes b → fours_of (fours_at i b) ≡ run 4 i b ++ run 4 (i + 4) b ++ run 4 (i + 8) b ++ run 4 (i + 12) b
fours_kept i b t = join (bytes_kept 4 i b t) (bytes_kept 4 (i + 4) b t) (bytes_kept 4 (i + 8) b t) (bytes_kept 4 (i + 12) b t)

pub four_of : (a b c d : ℕ) → a < 256 ^ 4 → b < 256 ^ 4 → c < 256 ^ 4 → d < 256 ^ 4 → Four (a ∷ b ∷ c ∷ d ∷ [])
four_of a b c d p q r s = record { four = refl; each = at }
  where
    at : (i : ℕ) → get_or (a ∷ b ∷ c ∷ d ∷ []) i 0 < 256 ^ 4
    at zero = p
    at (suc zero) = q
    at (suc (suc zero)) = r
    at (suc (suc (suc zero))) = s
    at (suc (suc (suc (suc i)))) = omega arith

pub fours_small : (i : ℕ) (b : List ℕ) → Bytes b → Four (fours_at i b)
fours_small i b t = four_of _ _ _ _ (value_small 4 i b t) (value_small 4 (i + 4) b t) (value_small 4 (i + 8) b t) (value_small 4 (i + 12) b t)

-- four values, as they are read
pub four_values : (i : ℕ) (b : List ℕ) → values_at 4 (λ (n : ℕ). n) 4 i b ≡ fours_at i b
four_values i b =
    ap (λ (j : ℕ). value_at 4 j b ∷ value_at 4 (i + 4) b ∷ value_at 4 (i + 8) b ∷ value_at 4 (i + 12) b ∷ []) (add-zero i)
