-- What four puts come to, one after another.
-- Assumes nothing.
use Rattle.std.specs.Prelude.{ℕ, zero, suc, ◌+◌, ◌*◌, ◌-◌, ◌/◌, ◌≤◌, ◌<◌, ◌≡◌, refl, List, [], ◌∷◌, ◌++◌, length, get_or, take, drop}
use Rattle.std.proofs.Common.{sym, ap, ◌∙◌, arith, append_assoc, append-nil, length-append, length-take, add-zero, take-append-drop}
use Rattle.std.proofs.Math.Nat.{le-div_iff_mul-le, div-lt_iff_lt-mul, mul-le-mul_right}
use Rattle.std.proofs.Math.Seq.{take-suc}
use Rattle.copies.specs.Parts.{zeros, put_at, put_fits, put_not, put_next}
use Rattle.littleendian.specs.Numbers.{bytes_of}
use Rattle.littleendian.specs.Back.{run_all}
use Rattle.littleendian.specs.Puts.{then}
use Rattle.arrays.specs.Arrays.{fours_of, numbers_of}

-- four numbers
pub fours_is : (a : List ℕ) {p q r s : List ℕ}
    → p ≡ put_at (zeros 16) 0 (bytes_of 4 (get_or a 0 0)) → q ≡ put_at p 4 (bytes_of 4 (get_or a 1 0)) → r ≡ put_at q 8 (bytes_of 4 (get_or a 2 0))
    → s ≡ put_at r 12 (bytes_of 4 (get_or a 3 0))
    → s ≡ fours_of a
unfolding put_at
fours_is a e f g h =
    then 12 (bytes_of 4 (get_or a 3 0)) (then 8 (bytes_of 4 (get_or a 2 0)) (then 4 (bytes_of 4 (get_or a 1 0)) e f) g) h

-- one put after another is one put of both
pub put_more : (d x y : List ℕ) (p q : ℕ) → q ≡ p + length x → q + length y ≤ length d → put_at (put_at d p x) q y ≡ put_at d p (x ++ y)
put_more d x y p q e h =
    let at : length (take p d ++ x) ≡ q = simp (length-append, length-take) (omega arith) in
    let fits : p + length (x ++ y) ≤ length d = simp length-append (omega arith) in
    let behind : q + length y ≡ p + length (x ++ y) = simp length-append (omega arith) in
    ap (λ (l : List ℕ). put_at l q y)
    (put_fits d p x (omega arith) ∙ sym (append_assoc (take p d) x (drop (p + length x) d)) ∙ ap (λ (n : ℕ). (take p d ++ x) ++ drop n d) (sym e))
    ∙ put_next (take p d ++ x) d y q at h
    ∙ ap (λ (n : ℕ). ((take p d ++ x) ++ y) ++ drop n d) behind
    ∙ ap (λ (l : List ℕ). l ++ drop (p + length (x ++ y)) d) (append_assoc (take p d) x y)
    ∙ append_assoc (take p d) (x ++ y) (drop (p + length (x ++ y)) d)
    ∙ sym (put_fits d p (x ++ y) fits)

pub bytes_long : (n x : ℕ) → length (bytes_of n x) ≡ n
bytes_long zero x = refl
bytes_long (suc n) x = ap (λ (k : ℕ). suc k) (bytes_long n (x / 256))

module _ {A : Type 0} (n : ℕ) (f : A → ℕ) where
  pub numbers_long : (a : List A) → length (numbers_of n f a) ≡ length a * n
  numbers_long [] = omega arith
  numbers_long (x ∷ a) = simp (length-append, bytes_long) (omega (arith, numbers_long a))

  numbers_append : (a b : List A) → numbers_of n f (a ++ b) ≡ numbers_of n f a ++ numbers_of n f b
  numbers_append [] b = refl
  numbers_append (x ∷ a) b =
      ap (λ (l : List ℕ). bytes_of n (f x) ++ l) (numbers_append a b) ∙ sym (append_assoc (bytes_of n (f x)) (numbers_of n f a) (numbers_of n f b))

  numbers_next : (a : List A) (k : ℕ) (d : A) → k < length a
      → numbers_of n f (take (k + 1) a) ≡ numbers_of n f (take k a) ++ bytes_of n (f (get_or a k d))
  numbers_next a k d h =
      let e : k + 1 ≡ suc k = omega arith in
      ap (λ (m : ℕ). numbers_of n f (take m a)) e
      ∙ ap (λ (l : List A). numbers_of n f l) (take-suc a k d h)
      ∙ numbers_append (take k a) (get_or a k d ∷ [])
      ∙ ap (λ (l : List ℕ). numbers_of n f (take k a) ++ l) (append-nil (bytes_of n (f (get_or a k d))))

  -- the numbers put so far, and the one behind them
  pub numbers_then : (a : List A) (d p o : List ℕ) (at k m : ℕ) (x : A) → 0 < n → k < length a → length a ≤ (length d - at) / n → at ≤ length d
      → m ≡ n → x ≡ get_or a k x → o ≡ put_at d at (numbers_of n f (take k a)) → p ≡ put_at o (at + k * m) (bytes_of n (f x))
      → p ≡ put_at d at (numbers_of n f (take (k + 1) a))
  numbers_then a d p o at k m x w h q l em ex eo ep =
      let y = bytes_of n (f x) in
      let whole : length a * n ≤ length d - at = (le-div_iff_mul-le w).0 q in
      let part : (k + 1) * n ≤ length a * n = mul-le-mul_right n (omega arith) in
      let long : length (numbers_of n f (take k a)) ≡ k * n = numbers_long (take k a) ∙ ap (λ (i : ℕ). i * n) (simp length-take (omega arith)) in
      let size = bytes_long n (f x) in
      ep
      ∙ ap (λ (i : ℕ). put_at o (at + k * i) y) em
      ∙ ap (λ (l : List ℕ). put_at l (at + k * n) y) eo
      ∙ put_more d (numbers_of n f (take k a)) y at (at + k * n) (omega (arith, long)) (omega (arith, size, part, whole))
      ∙ ap (λ (v : A). put_at d at (numbers_of n f (take k a) ++ bytes_of n (f v))) ex
      ∙ ap (λ (l : List ℕ). put_at d at l) (sym (numbers_next a k x h))

  -- none put
  pub numbers_none : (a : List A) (d : List ℕ) (at : ℕ) → at ≤ length d → d ≡ put_at d at (numbers_of n f (take 0 a))
  numbers_none a d at h = sym (put_fits d at [] (omega arith) ∙ rw add-zero (take-append-drop at d))

  -- numbers that do not fit
  pub numbers_not : (a : List A) (d : List ℕ) (at : ℕ) → 0 < n → length d < at → d ≡ put_at d at (numbers_of n f a)
  numbers_not a d at w h = sym (put_not d at (numbers_of n f a) (omega arith))

  pub numbers_many : (a : List A) (d : List ℕ) (at : ℕ) → 0 < n → (length d - at) / n < length a → d ≡ put_at d at (numbers_of n f a)
  numbers_many a d at w h =
      let over : length d - at < length a * n = (div-lt_iff_lt-mul w).0 h in
      sym (put_not d at (numbers_of n f a) (omega (arith, numbers_long a, over)))

-- four numbers, as one put of all
pub four_numbers : (a : List ℕ) → length a ≡ 4 → numbers_of 4 (λ (x : ℕ). x) a ≡ fours_of a
four_numbers a l = ap (λ (x : List ℕ). numbers_of 4 (λ (y : ℕ). y) x) (sym (run_all 4 a l)) ∙ simp append-nil refl

pub put_four : (a d o : List ℕ) (at : ℕ) → length a ≡ 4 → o ≡ put_at d at (numbers_of 4 (λ (x : ℕ). x) a) → o ≡ put_at d at (fours_of a)
put_four a d o at l e = e ∙ ap (λ (x : List ℕ). put_at d at x) (four_numbers a l)
