-- A list with a part of it replaced, and the laws that callers use.
-- Assumes nothing.
use Rattle.std.specs.Prelude.{ℕ, ◌+◌, ◌-◌, ◌≤◌, ◌<◌, ◌≡◌, refl, List, ◌++◌, leb, length, take, drop, replicate}
use Rattle.std.proofs.Common.{sym, ap, ◌∙◌, append_assoc, append-nil, arith, leb-true, le-leb, length-take, length-drop, length-append, take-append-drop, drop_of_length-le, drop-drop, take_all, take_at, drop_at}
use Rattle.std.proofs.Math.Nat.{add-sub_cancel_left}
use Rattle.std.proofs.lemmas.Bool.{lt-leb}
use Rattle.std.proofs.lemmas.List.{length-replicate, drop-append-le}
use Rattle.choices.specs.Choice.{pick, pick_cases}

-- n zero bytes
abbrev pub zeros : ℕ → List ℕ
zeros n = replicate n 0

pub length-zeros : (n : ℕ) → length (zeros n) ≡ n
length-zeros n = length-replicate n 0

-- d with s in the place of its own elements from p on
abbrev pub put : List ℕ → ℕ → List ℕ → List ℕ
put d p s = take p d ++ (s ++ drop (p + length s) d)

-- the same where s fits there, and d unchanged where it does not
unfoldable pub put_at : List ℕ → ℕ → List ℕ → List ℕ
put_at d p s = pick (leb (p + length s) (length d)) (put d p s) d

pub put_fits : (d : List ℕ) (p : ℕ) (s : List ℕ) → p + length s ≤ length d → put_at d p s ≡ put d p s
unfolding put_at
put_fits d p s h = rw (le-leb (p + length s) (length d) h)

pub put_not : (d : List ℕ) (p : ℕ) (s : List ℕ) → length d < p + length s → put_at d p s ≡ d
unfolding put_at
put_not d p s h = rw (lt-leb (p + length s) (length d) h)

-- what a slice holds once its part from p on, k elements long, is back with s in front
pub part_back : (d s : List ℕ) (p k : ℕ) → length s ≤ k → p + k ≤ length d
    → take p d ++ ((s ++ drop (length s) (take k (drop p d))) ++ drop k (drop p d)) ≡ put d p s
part_back d s p k h q =
    let fits : length s ≤ length (take k (drop p d)) = simp (length-take, length-drop) (omega arith) in
    ap (λ (l : List ℕ). take p d ++ l)
    (append_assoc s (drop (length s) (take k (drop p d))) (drop k (drop p d))
    ∙ ap (λ (l : List ℕ). s ++ l)
    (sym (drop-append-le (length s) (take k (drop p d)) (drop k (drop p d)) fits)
    ∙ ap (λ (l : List ℕ). drop (length s) l) (take-append-drop k (drop p d))
    ∙ drop-drop (length s) p d))

-- what `bytes::copy` of s into the part from p on leaves
pub copy_back : (d s : List ℕ) (p : ℕ) → p + length s ≤ length d → (ys : List ℕ)
    → ys ≡ take (length s) s ++ drop (length s) (take (length d - p) (drop p d))
    → take p d ++ (ys ++ drop (length d - p) (drop p d)) ≡ put_at d p s
copy_back d s p h ys e =
    ap (λ (l : List ℕ). take p d ++ (l ++ drop (length d - p) (drop p d)))
    (e ∙ ap (λ (l : List ℕ). l ++ drop (length s) (take (length d - p) (drop p d))) (take_all (length s) s (omega arith)))
    ∙ part_back d s p (length d - p) (omega arith) (omega arith)
    ∙ sym (put_fits d p s h)

-- what zeros in the part of n elements from p on leave
pub zero_back : (d : List ℕ) (p n : ℕ) → p + n ≤ length d → (ys : List ℕ) → ys ≡ zeros (length (take (p + n - p) (drop p d)))
    → take p d ++ (ys ++ drop (p + n - p) (drop p d)) ≡ put_at d p (zeros n)
zero_back d p n h ys e =
    let len : length (take n (drop p d)) ≡ n = simp (length-take, length-drop) (omega arith) in
    ap (λ (l : List ℕ). take p d ++ (l ++ drop (p + n - p) (drop p d))) e
    ∙ ap (λ (k : ℕ). take p d ++ (zeros (length (take k (drop p d))) ++ drop k (drop p d))) (add-sub_cancel_left p n)
    ∙ ap (λ (k : ℕ). take p d ++ (zeros k ++ drop n (drop p d))) len
    ∙ ap (λ (l : List ℕ). take p d ++ (zeros n ++ l)) (drop-drop n p d)
    ∙ ap (λ (k : ℕ). take p d ++ (zeros n ++ drop (p + k) d)) (sym (length-zeros n))
    ∙ sym (put_fits d p (zeros n) (omega (arith, length-zeros n)))

-- ---- what callers say of a part that is put

pub put_length : (d : List ℕ) (p : ℕ) (s : List ℕ) → length (put_at d p s) ≡ length d
unfolding put_at
put_length d p s =
    pick_cases (λ (l : List ℕ). length l ≡ length d) (leb (p + length s) (length d))
    (λ e. let h : p + length s ≤ length d = leb-true _ _ e in simp (length-append, length-take, length-drop) (omega arith))
    (λ e. refl)

-- a part that ends where the list ends
pub put_end : (d s : List ℕ) (p : ℕ) → length d ≡ p + length s → put_at d p s ≡ take p d ++ s
put_end d s p h =
    put_fits d p s (omega arith)
    ∙ ap (λ (l : List ℕ). take p d ++ l) (ap (λ (l : List ℕ). s ++ l) (drop_of_length-le d {i = p + length s} (omega arith)) ∙ append-nil s)

-- a whole list replaced
pub put_whole : (d s : List ℕ) → length d ≡ length s → put_at d 0 s ≡ s
put_whole d s h = put_end d s 0 (omega arith)

-- one put after another, each where the last ended
pub put_next : (x d y : List ℕ) (p : ℕ) → length x ≡ p → p + length y ≤ length d → put_at (x ++ drop p d) p y ≡ (x ++ y) ++ drop (p + length y) d
put_next x d y p e h =
    put_fits (x ++ drop p d) p y (simp (length-append, length-drop) (omega arith))
    ∙ ap (λ (l : List ℕ). l ++ (y ++ drop (p + length y) (x ++ drop p d))) (take_at x (drop p d) p e)
    ∙ ap (λ (l : List ℕ). x ++ (y ++ l))
    (sym (drop-drop (length y) p (x ++ drop p d)) ∙ ap (λ (l : List ℕ). drop (length y) l) (drop_at x (drop p d) p e) ∙ drop-drop (length y) p d)
    ∙ sym (append_assoc x y (drop (p + length y) d))
