-- A window is three runs: of the header, of the store, and of zeros.
-- Assumes nothing.
use Rattle.std.specs.Prelude.{ℕ, ◌+◌, ◌-◌, ◌*◌, ◌≤◌, min, ◌≡◌, refl, List, [], ◌++◌, length, take, drop}
use Rattle.std.proofs.Common.{sym, ap, ◌∙◌, append_assoc, arith, zero-add, le_trans, length-take, length-drop, length-append, take-take, length-take-le}
use Rattle.std.proofs.Math.Nat.{add-sub_cancel_left}
use Rattle.std.proofs.lemmas.List.{take-append-le}
use Rattle.std.proofs.Math.Seq.{drop-append-add}
use Rattle.copies.specs.Parts.{zeros, length-zeros, put_at, put_next}
use Rattle.copies.specs.Lists.{take-append, drop-append, drop-take, take_cut, drop_cut, take-zeros}
use Rattle.pages.specs.Pages.{block}
use Rattle.serving.specs.Serving.{lesser_of, window_of, page_bytes}

-- n of h from a on, k of s from b on, and z zeros
unfoldable pub runs_of : List ℕ → ℕ → ℕ → List ℕ → ℕ → ℕ → ℕ → List ℕ
runs_of h a n s b k z = (take n (drop a h) ++ take k (drop b s)) ++ zeros z

-- three puts, each where the last ended
pub runs_put : (d h s : List ℕ) (a n b k z : ℕ) → a + n ≤ length h → b + k ≤ length s → n + k + z ≤ length d → (x y w : List ℕ)
    → x ≡ put_at d 0 (take (a + n - a) (drop a h)) → y ≡ put_at x n (take (b + k - b) (drop b s)) → w ≡ put_at y (n + k) (zeros z)
    → w ≡ runs_of h a n s b k z ++ drop (n + k + z) d
unfolding runs_of
runs_put d h s a n b k z p q r x y w e f g =
    let u = take n (drop a h) in
    let v = take k (drop b s) in
    let lu : length (take n (drop a h)) ≡ n = simp (length-take, length-drop) (omega arith) in
    let lv : length (take k (drop b s)) ≡ k = simp (length-take, length-drop) (omega arith) in
    let luv : length (u ++ v) ≡ n + k = simp length-append (omega arith) in
    let e' : x ≡ u ++ drop n d =
    e
    ∙ ap (λ (i : ℕ). put_at d 0 (take i (drop a h))) (add-sub_cancel_left a n)
    ∙ put_next [] d u 0 refl (omega arith)
    ∙ ap (λ (i : ℕ). u ++ drop i d) (zero-add (length u) ∙ lu) in
    let f' : y ≡ (u ++ v) ++ drop (n + k) d =
    f
    ∙ ap (λ (i : ℕ). put_at x n (take i (drop b s))) (add-sub_cancel_left b k)
    ∙ ap (λ (l : List ℕ). put_at l n v) e'
    ∙ put_next u d v n lu (omega arith)
    ∙ ap (λ (i : ℕ). (u ++ v) ++ drop (n + i) d) lv in
    g
    ∙ ap (λ (l : List ℕ). put_at l (n + k) (zeros z)) f'
    ∙ put_next (u ++ v) d (zeros z) (n + k) luv (omega (arith, length-zeros z))
    ∙ ap (λ (i : ℕ). ((u ++ v) ++ zeros z) ++ drop (n + k + i) d) (length-zeros z)

-- `omega` splits at each `-` and `min`, six of them at most, so these stand alone
left_of : (x y m : ℕ) → m ≡ min x y → y - x ≡ y - m
left_of x y m e = omega arith

past : (x y m : ℕ) → m ≡ min x y → x - y ≡ x - m
past x y m e = omega arith

shorter : (x y : ℕ) → x - y ≤ x
shorter x y = omega arith

-- a window of two lists, as the parts of each that the code works out
module _ (h t : List ℕ) (off len a n b k : ℕ) (ea : a ≡ min off (length h)) (en : n ≡ min len (length h - a)) (eb : b ≡ min (off - a) (length t)) (ek : k ≡ min (len - n) (length t - b)) where
  head_left : length (drop off h) ≡ length h - a
  head_left = length-drop off h ∙ left_of off (length h) a ea

  tail_at : drop (off - length h) t ≡ drop b t
  tail_at = ap (λ (i : ℕ). drop i t) (past off (length h) a ea) ∙ drop_cut (off - a) b t eb

  head : take len (drop off h) ≡ take n (drop a h)
  head = take_cut len n (drop off h) (en ∙ ap (λ (i : ℕ). min len i) (sym head_left)) ∙ ap (λ (l : List ℕ). take n l) (drop_cut off a h ea)

  rest : len - length (drop off h) ≡ len - n
  rest = ap (λ (i : ℕ). len - i) head_left ∙ past len (length h - a) n en

  tail : take (len - n) (drop b t) ≡ take k (drop b t)
  tail = take_cut (len - n) k (drop b t) (ek ∙ ap (λ (i : ℕ). min (len - n) i) (sym (length-drop b t)))

  end : take (len - n - length (drop b t)) (zeros len) ≡ zeros (len - n - k)
  end =
      ap (λ (i : ℕ). take i (zeros len)) (ap (λ (i : ℕ). len - n - i) (length-drop b t) ∙ past (len - n) (length t - b) k ek)
      ∙ take-zeros (len - n - k) len (le_trans (shorter (len - n) k) (shorter len n))

  window_two : take len (drop off (h ++ t) ++ zeros len) ≡ (take n (drop a h) ++ take k (drop b t)) ++ zeros (len - n - k)
  window_two =
      ap (λ (l : List ℕ). take len (l ++ zeros len)) (drop-append off h t)
      ∙ ap (λ (l : List ℕ). take len ((drop off h ++ l) ++ zeros len)) tail_at
      ∙ ap (λ (l : List ℕ). take len l) (append_assoc (drop off h) (drop b t) (zeros len))
      ∙ take-append len (drop off h) (drop b t ++ zeros len)
      ∙ ap (λ (l : List ℕ). l ++ take (len - length (drop off h)) (drop b t ++ zeros len)) head
      ∙ ap (λ (i : ℕ). take n (drop a h) ++ take i (drop b t ++ zeros len)) rest
      ∙ ap (λ (l : List ℕ). take n (drop a h) ++ l) (take-append (len - n) (drop b t) (zeros len))
      ∙ ap (λ (l : List ℕ). take n (drop a h) ++ (l ++ take (len - n - length (drop b t)) (zeros len))) tail
      ∙ ap (λ (l : List ℕ). take n (drop a h) ++ (take k (drop b t) ++ l)) end
      ∙ sym (append_assoc (take n (drop a h)) (take k (drop b t)) (zeros (len - n - k)))

within : (x y k : ℕ) → k ≡ min x y → k ≤ y
within x y k e = omega arith

pub window_runs : (h store : List ℕ) (size off len a n b k : ℕ) → length h ≡ block → size ≤ length store
    → a ≡ lesser_of off block → n ≡ lesser_of len (block - a) → b ≡ lesser_of (off - a) size → k ≡ lesser_of (len - n) (size - b)
    → runs_of h a n store b k (len - n - k) ≡ window_of off len (h ++ take size store)
unfolding runs_of window_of lesser_of
window_runs h store size off len a n b k eh hs ea en eb ek =
    let lt : length (take size store) ≡ size = length-take-le size store hs in
    sym
    (window_two h (take size store) off len a n b k
    (ea ∙ ap (λ (i : ℕ). min off i) (sym eh))
    (en ∙ ap (λ (i : ℕ). min len (i - a)) (sym eh))
    (eb ∙ ap (λ (i : ℕ). min (off - a) i) (sym lt))
    (ek ∙ ap (λ (i : ℕ). min (len - n) (i - b)) (sym lt))
    ∙ ap (λ (l : List ℕ). (take n (drop a h) ++ l) ++ zeros (len - n - k))
    (ap (λ (l : List ℕ). take k l) (drop-take size b store)
    ∙ take-take k (size - b) (drop b store) (within (len - n) (size - b) k ek)))

-- blocks of the page that lie within it are the store's
pub window_area : (h store : List ℕ) (blocks at n : ℕ) → length h ≡ block → block * blocks ≤ length store → 1 ≤ at → at + n ≤ blocks + 1
    → window_of (block * at) (block * n) (page_bytes h store blocks) ≡ take (block * n) (drop (block * (at - 1)) store)
unfolding window_of page_bytes
window_area h store blocks at n e s p q =
    let here = block * (at - 1) in
    let size : length (take (block * blocks) store) ≡ block * blocks = length-take-le (block * blocks) store s in
    let place : block * at ≡ length h + here = omega arith in
    let left : length (drop here (take (block * blocks) store)) ≡ block * blocks - here = length-drop here (take (block * blocks) store) ∙ ap (λ (i : ℕ). i - here) size in
    ap (λ (i : ℕ). take (block * n) (drop i (h ++ take (block * blocks) store) ++ zeros (block * n))) place
    ∙ ap (λ (l : List ℕ). take (block * n) (l ++ zeros (block * n))) (drop-append-add h (take (block * blocks) store) here)
    ∙ take-append-le (block * n) (drop here (take (block * blocks) store)) (zeros (block * n)) (omega arith)
    ∙ ap (λ (l : List ℕ). take (block * n) l) (drop-take (block * blocks) here store)
    ∙ take-take (block * n) (block * blocks - here) (drop here store) (omega arith)
