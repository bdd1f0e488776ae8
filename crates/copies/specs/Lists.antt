-- Laws of `take` and `drop` with no condition on the numbers, which the kit has only under conditions.
-- Assumes nothing.
use Rattle.std.specs.Prelude.{ℕ, zero, suc, ◌+◌, ◌-◌, ◌≤◌, min, ◌≡◌, refl, List, [], ◌∷◌, ◌++◌, length, take, drop}
use Rattle.std.proofs.Common.{sym, ap, ◌∙◌, arith, take_at}
use Rattle.std.proofs.Math.Nat.{sub-zero, zero-sub, suc-sub-suc, zero-min, suc-min-suc}
use Rattle.std.proofs.lemmas.List.{replicate-append-replicate}
use Rattle.std.proofs.Math.Seq.{take-nil, drop-nil}
use Rattle.copies.specs.Parts.{zeros, length-zeros}

pub take-append : (n : ℕ) (a b : List ℕ) → take n (a ++ b) ≡ take n a ++ take (n - length a) b
take-append n [] b = ap (λ (k : ℕ). take k b) (sym (sub-zero n)) ∙ ap (λ (l : List ℕ). l ++ take (n - 0) b) (sym (take-nil n))
take-append zero (x ∷ a) b = ap (λ (k : ℕ). take k b) (sym (zero-sub (suc (length a))))
take-append (suc n) (x ∷ a) b =
    ap (λ (l : List ℕ). x ∷ l) (take-append n a b ∙ ap (λ (k : ℕ). take n a ++ take k b) (sym (suc-sub-suc n (length a))))

pub drop-append : (n : ℕ) (a b : List ℕ) → drop n (a ++ b) ≡ drop n a ++ drop (n - length a) b
drop-append n [] b = ap (λ (k : ℕ). drop k b) (sym (sub-zero n)) ∙ ap (λ (l : List ℕ). l ++ drop (n - 0) b) (sym (drop-nil n))
drop-append zero (x ∷ a) b = ap (λ (k : ℕ). (x ∷ a) ++ drop k b) (sym (zero-sub (suc (length a))))
drop-append (suc n) (x ∷ a) b = drop-append n a b ∙ ap (λ (k : ℕ). drop n a ++ drop k b) (sym (suc-sub-suc n (length a)))

pub drop-take : (m n : ℕ) (l : List ℕ) → drop n (take m l) ≡ take (m - n) (drop n l)
drop-take m zero l = ap (λ (k : ℕ). take k l) (sym (sub-zero m))
drop-take zero (suc n) l = ap (λ (k : ℕ). take k (drop (suc n) l)) (sym (zero-sub (suc n)))
drop-take (suc m) (suc n) [] = sym (take-nil (suc m - suc n))
drop-take (suc m) (suc n) (x ∷ l) = drop-take m n l ∙ ap (λ (k : ℕ). take k (drop n l)) (sym (suc-sub-suc m n))

-- no more is taken or dropped than is there
pub take_cut : (n m : ℕ) (l : List ℕ) → m ≡ min n (length l) → take n l ≡ take m l
take_cut n m [] e = take-nil n ∙ sym (take-nil m)
take_cut zero m (x ∷ l) e = ap (λ (k : ℕ). take k (x ∷ l)) (sym (e ∙ zero-min (suc (length l))))
take_cut (suc n) m (x ∷ l) e =
    ap (λ (r : List ℕ). x ∷ r) (take_cut n (min n (length l)) l refl)
    ∙ ap (λ (k : ℕ). take k (x ∷ l)) (sym (e ∙ suc-min-suc n (length l)))

pub drop_cut : (n m : ℕ) (l : List ℕ) → m ≡ min n (length l) → drop n l ≡ drop m l
drop_cut n m [] e = drop-nil n ∙ sym (drop-nil m)
drop_cut zero m (x ∷ l) e = ap (λ (k : ℕ). drop k (x ∷ l)) (sym (e ∙ zero-min (suc (length l))))
drop_cut (suc n) m (x ∷ l) e =
    drop_cut n (min n (length l)) l refl ∙ ap (λ (k : ℕ). drop k (x ∷ l)) (sym (e ∙ suc-min-suc n (length l)))

pub take-zeros : (n m : ℕ) → n ≤ m → take n (zeros m) ≡ zeros n
take-zeros n m h =
    ap (λ (i : ℕ). take n (zeros i)) (let e : m ≡ n + (m - n) = omega arith in e)
    ∙ ap (λ (l : List ℕ). take n l) (sym (replicate-append-replicate n (m - n) 0))
    ∙ take_at (zeros n) (zeros (m - n)) n (length-zeros n)
