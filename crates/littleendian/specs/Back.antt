-- Numbers and their bytes are had back from each other, whatever the width.
-- Assumes nothing.
use Rattle.std.specs.Prelude.{ℕ, zero, suc, ◌+◌, ◌*◌, ◌/◌, ◌%◌, ◌^◌, ◌≤◌, ◌<◌, ◌≡◌, refl, List, [], ◌∷◌, ◌++◌, length, get_or, take, drop}
use Rattle.std.proofs.Common.{sym, ap, ◌∙◌, arith, mod-eq_of_lt, take_all, drop-cons}
use Rattle.littleendian.specs.Numbers.{bytes_of, value_of, value_at}

-- a number that fits in n bytes is what its n bytes say
pub value_back : (n x : ℕ) → x < 256 ^ n → value_of (bytes_of n x) ≡ x
value_back zero x h = omega arith
value_back (suc zero) x h = omega arith
value_back (suc (suc n)) x h =
    ap (λ (y : ℕ). x % 256 + 256 * y) (value_back (suc n) (x / 256) (omega arith)) ∙ omega arith

-- ---- bytes one after another

-- the n elements of l from i on
abbrev pub run : ℕ → ℕ → List ℕ → List ℕ
run zero i l = []
run (suc n) i l = get_or l i 0 ∷ run n (suc i) l

pub run_is : (n i : ℕ) (l : List ℕ) → i + n ≤ length l → run n i l ≡ take n (drop i l)
run_is zero i l h = refl
run_is (suc n) i l h =
    ap (λ (r : List ℕ). get_or l i 0 ∷ r) (run_is n (suc i) l (omega arith))
    ∙ sym (ap (λ (r : List ℕ). take (suc n) r) (drop-cons l i 0 (omega arith)))

-- a list of n elements is its n elements
pub run_all : (n : ℕ) (l : List ℕ) → length l ≡ n → run n 0 l ≡ l
run_all n l e = run_is n 0 l (omega arith) ∙ take_all n l (omega arith)

-- joined lists of equal parts are equal
pub both : {a b p q : List ℕ} → a ≡ p → b ≡ q → a ++ b ≡ p ++ q
both e f = cc

pub join : {a b c d p q r s : List ℕ} → a ≡ p → b ≡ q → c ≡ r → d ≡ s → a ++ b ++ c ++ d ≡ p ++ q ++ r ++ s
join e f g h = both (both (both e f) g) h

-- eight numbers one by one
pub eight : {a b c d e f g h p q r s t u v w : ℕ} → a ≡ p → b ≡ q → c ≡ r → d ≡ s → e ≡ t → f ≡ u → g ≡ v → h ≡ w
    → a ∷ b ∷ c ∷ d ∷ e ∷ f ∷ g ∷ h ∷ [] ≡ p ∷ q ∷ r ∷ s ∷ t ∷ u ∷ v ∷ w ∷ []
eight e1 e2 e3 e4 e5 e6 e7 e8 = cc

-- a first number and a rest
pub first : {a b : ℕ} {l m : List ℕ} → a ≡ b → l ≡ m → a ∷ l ≡ b ∷ m
first e f = rw (e, f)

-- the low bytes of a number are those of what is left of it
pub low2 : (x : ℕ) → bytes_of 2 (x % 65536) ≡ bytes_of 2 x
low2 x = first (omega arith) (ap (λ (y : ℕ). y ∷ []) (omega arith))

pub low3 : (x : ℕ) → bytes_of 3 (x % 16777216) ≡ bytes_of 3 x
low3 x =
    let e : x % 16777216 / 256 ≡ x / 256 % 65536 = omega arith in
    first (omega arith) (ap (λ (y : ℕ). bytes_of 2 y) e ∙ low2 (x / 256))

pub low4 : (x : ℕ) → bytes_of 4 (x % 4294967296) ≡ bytes_of 4 x
low4 x =
    let e : x % 4294967296 / 256 ≡ x / 256 % 16777216 = omega arith in
    first (omega arith) (ap (λ (y : ℕ). bytes_of 3 y) e ∙ low3 (x / 256))

-- a number of eight bytes is its two halves
pub halves : (y : ℕ) → bytes_of 4 (y % 4294967296) ++ bytes_of 4 (y / 4294967296) ≡ bytes_of 8 y
halves y =
    let e : y / 4294967296 ≡ y / 256 / 256 / 256 / 256 = omega arith in
    both (low4 y) (ap (λ (z : ℕ). bytes_of 4 z) e)

-- every element is a byte
unfoldable pub Bytes : List ℕ → Type 0
Bytes b = (i : ℕ) → get_or b i 0 < 256

byte_low : (x m : ℕ) → x < 256 → (x + 256 * m) % 256 ≡ x
byte_low x m h = omega arith

byte_high : (x m : ℕ) → x < 256 → (x + 256 * m) / 256 ≡ m
byte_high x m h = omega arith

-- bytes are the bytes of their number
pub bytes_kept : (n i : ℕ) (b : List ℕ) → Bytes b → bytes_of n (value_at n i b) ≡ run n i b
unfolding Bytes
bytes_kept zero i b t = refl
bytes_kept (suc zero) i b t = ap (λ (x : ℕ). x ∷ []) (mod-eq_of_lt (t i))
bytes_kept (suc (suc n)) i b t =
    rw (byte_low (get_or b i 0) (value_at (suc n) (suc i) b) (t i), byte_high (get_or b i 0) (value_at (suc n) (suc i) b) (t i))
    (ap (λ (r : List ℕ). get_or b i 0 ∷ r) (bytes_kept (suc n) (suc i) b t))

-- and n of them say a number that fits in n bytes
pub value_small : (n i : ℕ) (b : List ℕ) → Bytes b → value_at n i b < 256 ^ n
unfolding Bytes
value_small zero i b t = omega arith
value_small (suc zero) i b t = let p = t i in omega arith
value_small (suc (suc n)) i b t = let p = t i in let q = value_small (suc n) (suc i) b t in omega arith
