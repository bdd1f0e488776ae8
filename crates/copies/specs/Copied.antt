-- A list that comes to agree with another in more and more places, in whatever order.
-- Assumes nothing.
use Rattle.std.specs.Prelude.{ℕ, ◌+◌, ◌-◌, ◌≤◌, ◌<◌, ◌%◌, ◌≡◌, refl, List, ◌++◌, ltb, length, take, drop, get_or}
use Rattle.std.proofs.Common.{sym, subst, ap, ◌∙◌, arith, length-take, length-drop, length-append, drop-drop, get_or-take, get_or-drop, get_or-append-add, ext_get_or, take_all, ltb-true, ltb-false}
use Rattle.std.proofs.Math.Nat.{add-sub_cancel_left}
use Rattle.std.proofs.Math.ListN.{get_or-append}
use Rattle.choices.specs.Tests.{by_test}
use Rattle.copies.specs.Parts.{put_at, put_fits, put_length, copy_back}

-- d with s in front, as the kit's copy says it
abbrev pub front : List ℕ → List ℕ → List ℕ
front s d = take (length s) s ++ drop (length s) d

-- e is as long as d, agrees with s wherever d does, and is d past the end of s
pub record Copied (s d e : List ℕ) : Type 0 where
  pub same : length e ≡ length d
  pub keeps : (k : ℕ) → get_or d k 0 ≡ get_or s k 0 → get_or e k 0 ≡ get_or s k 0
  pub rest : (k : ℕ) → length s ≤ k → get_or e k 0 ≡ get_or d k 0

-- and agrees with s at the n places from a on
pub record CopiedPart (s d e : List ℕ) (a n : ℕ) : Type 0 where
  pub copied : Copied s d e
  pub done : (k : ℕ) → a ≤ k → k < a + n → get_or e k 0 ≡ get_or s k 0

-- and agrees with s at the first n places of each of the four pages of 4,096 from a on
pub record CopiedFronts (s d e : List ℕ) (a n : ℕ) : Type 0 where
  pub copied : Copied s d e
  pub done : (k : ℕ) → a ≤ k → k < a + 16384 → (k - a) % 4096 < n → get_or e k 0 ≡ get_or s k 0

-- a number is below another or not
by_order : {A : Type 0} (i j : ℕ) → (i < j → A) → (j ≤ i → A) → A
by_order i j f g = by_test (ltb i j) (λ e. f (ltb-true i j e)) (λ e. g (ltb-false i j e))

-- an element of two lists, the first of which is n long
get_or_left : (x y : List ℕ) (n k : ℕ) → length x ≡ n → k < n → get_or (x ++ y) k 0 ≡ get_or x k 0
get_or_left x y n k e h = get_or-append x y 0 k (omega arith)

get_or_right : (x y : List ℕ) (n k : ℕ) → length x ≡ n → n ≤ k → get_or (x ++ y) k 0 ≡ get_or y (k - n) 0
get_or_right x y n k e h =
    ap (λ (j : ℕ). get_or (x ++ y) j 0) (let p : k ≡ length x + (k - n) = omega arith in p) ∙ get_or-append-add x y (k - n) 0

-- an element behind the first n
get_or_behind : (l : List ℕ) (n k : ℕ) → n ≤ k → get_or (drop n l) (k - n) 0 ≡ get_or l k 0
get_or_behind l n k h = get_or-drop n l (k - n) 0 ∙ ap (λ (j : ℕ). get_or l j 0) (let p : n + (k - n) ≡ k = omega arith in p)

-- ---- one part

module _ (s d : List ℕ) (a n : ℕ) (h : a + n ≤ length s) (q : length s ≤ length d) where
  size : length (take n (drop a s)) ≡ n
  size = simp (length-take, length-drop) (omega arith)

  before : length (take a d) ≡ a
  before = simp length-take (omega arith)

  spread : put_at d a (take n (drop a s)) ≡ take a d ++ (take n (drop a s) ++ drop (a + n) d)
  spread =
      put_fits d a (take n (drop a s)) (omega (arith, size))
      ∙ ap (λ (j : ℕ). take a d ++ (take n (drop a s) ++ drop (a + j) d)) size

  at_left : (k : ℕ) → k < a → get_or (put_at d a (take n (drop a s))) k 0 ≡ get_or d k 0
  at_left k l =
      ap (λ (x : List ℕ). get_or x k 0) spread
      ∙ get_or_left (take a d) (take n (drop a s) ++ drop (a + n) d) a k before l
      ∙ get_or-take a d k 0 l

  behind : (k : ℕ) → a ≤ k → get_or (put_at d a (take n (drop a s))) k 0 ≡ get_or (take n (drop a s) ++ drop (a + n) d) (k - a) 0
  behind k l =
      ap (λ (x : List ℕ). get_or x k 0) spread ∙ get_or_right (take a d) (take n (drop a s) ++ drop (a + n) d) a k before l

  at_part : (k : ℕ) → a ≤ k → k < a + n → get_or (put_at d a (take n (drop a s))) k 0 ≡ get_or s k 0
  at_part k l m =
      behind k l
      ∙ get_or_left (take n (drop a s)) (drop (a + n) d) n (k - a) size (omega arith)
      ∙ get_or-take n (drop a s) (k - a) 0 (omega arith)
      ∙ get_or_behind s a k l

  at_right : (k : ℕ) → a + n ≤ k → get_or (put_at d a (take n (drop a s))) k 0 ≡ get_or d k 0
  at_right k l =
      behind k (omega arith)
      ∙ get_or_right (take n (drop a s)) (drop (a + n) d) n (k - a) size (omega arith)
      ∙ ap (λ (j : ℕ). get_or (drop (a + n) d) j 0) (let p : k - a - n ≡ k - (a + n) = omega arith in p)
      ∙ get_or_behind d (a + n) k l

  pub part_copied : CopiedPart s d (put_at d a (take n (drop a s))) a n
  part_copied =
      record {
        copied = record {
          same = put_length d a (take n (drop a s));
          keeps = λ k e. by_order k a (λ l. at_left k l ∙ e) (λ l. by_order k (a + n) (λ m. at_part k l m) (λ m. at_right k m ∙ e));
          rest = λ k l. at_right k (omega arith);
        };
        done = at_part;
      }

-- what the kit's copy of a part of s into d's part from a on leaves
pub part_back_copied : (s d : List ℕ) (a n : ℕ) → a + n ≤ length s → length s ≤ length d → (ys : List ℕ)
    → ys ≡ front (take (a + n - a) (drop a s)) (take (length d - a) (drop a d))
    → CopiedPart s d (take a d ++ (ys ++ drop (length d - a) (drop a d))) a n
part_back_copied s d a n h q ys e =
    let fits : a + length (take (a + n - a) (drop a s)) ≤ length d = simp (length-take, length-drop) (omega arith) in
    subst (λ (l : List ℕ). CopiedPart s d l a n)
    (sym
    (copy_back d (take (a + n - a) (drop a s)) a fits ys e
    ∙ ap (λ (m : ℕ). put_at d a (take m (drop a s))) (add-sub_cancel_left a n)))
    (part_copied s d a n h q)

-- what a copy of a part of s over just as many elements of d from a on leaves
pub part_replaced : (s d : List ℕ) (a n m : ℕ) → a + n ≤ length s → length s ≤ length d → m ≡ n → (ys : List ℕ)
    → ys ≡ take m (drop a s)
    → CopiedPart s d (take a d ++ (ys ++ drop m (drop a d))) a n
part_replaced s d a n m h q f ys e =
    let len : length ys ≡ n = rw (e, f) (simp (length-take, length-drop) (omega arith)) in
    let whole : take a d ++ (ys ++ drop m (drop a d)) ≡ put_at d a (take n (drop a s)) =
    ap (λ (l : List ℕ). take a d ++ (ys ++ l)) (drop-drop m a d)
    ∙ ap (λ (j : ℕ). take a d ++ (ys ++ drop (a + j) d)) (f ∙ sym len)
    ∙ sym (put_fits d a ys (omega arith))
    ∙ ap (λ (l : List ℕ). put_at d a l) (e ∙ ap (λ (j : ℕ). take j (drop a s)) f) in
    subst (λ (l : List ℕ). CopiedPart s d l a n) (sym whole) (part_copied s d a n h q)

-- ---- one copy after another

pub copied_none : (s d : List ℕ) → Copied s d d
copied_none s d = record { same = refl; keeps = λ k e. e; rest = λ k h. refl }

pub copied_then : {s d e f : List ℕ} → Copied s d e → Copied s e f → Copied s d f
copied_then c b =
    record { same = b.same ∙ c.same; keeps = λ k e. b.keeps k (c.keeps k e); rest = λ k h. b.rest k h ∙ c.rest k h }

pub part_none : (s d : List ℕ) → CopiedPart s d d 0 0
part_none s d = record { copied = copied_none s d; done = λ k h l. absurd (omega arith) }

-- the first n, and the m behind them
pub part_then : {s d e f : List ℕ} (n m : ℕ) → CopiedPart s d e 0 n → CopiedPart s e f n m → CopiedPart s d f 0 (n + m)
part_then n m c b =
    record {
      copied = copied_then c.copied b.copied;
      done = λ k h l. by_order k n (λ m. b.copied.keeps k (c.done k h (omega arith))) (λ m. b.done k m (omega arith));
    }

-- a piece of each of the four pages
pub four_pieces : {s d e f g h : List ℕ} (a : ℕ) → CopiedPart s d e a 256 → CopiedPart s e f (a + 4096) 256 → CopiedPart s f g (a + 8192) 256
    → CopiedPart s g h (a + 12288) 256 → CopiedFronts s d h a 256
four_pieces a p q r t =
    record {
      copied = copied_then (copied_then (copied_then p.copied q.copied) r.copied) t.copied;
      done = λ k l m w.
          by_order k (a + 4096)
          (λ x. t.copied.keeps k (r.copied.keeps k (q.copied.keeps k (p.done k l (omega arith)))))
          (λ x. by_order k (a + 8192)
          (λ y. t.copied.keeps k (r.copied.keeps k (q.done k x (omega arith))))
          (λ y. by_order k (a + 12288)
          (λ z. t.copied.keeps k (r.done k y (omega arith)))
          (λ z. t.done k z (omega arith))));
    }

pub fronts_none : (s d : List ℕ) (a : ℕ) → CopiedFronts s d d a 0
fronts_none s d a = record { copied = copied_none s d; done = λ k h l w. absurd (omega arith) }

-- the fronts of four pages, and the pieces behind them
pub fronts_then : {s d e f : List ℕ} (a n m : ℕ) → n + m ≤ 4096 → CopiedFronts s d e a n → CopiedFronts s e f (a + n) m
    → CopiedFronts s d f a (n + m)
fronts_then a n m v c b =
    record {
      copied = copied_then c.copied b.copied;
      done = λ k h l w.
          by_order ((k - a) % 4096) n
          (λ x. b.copied.keeps k (c.done k h l x))
          (λ x. b.done k (omega arith) (omega arith) (omega arith));
    }

-- fronts that are whole pages
pub fronts_whole : {s d e : List ℕ} (a : ℕ) → CopiedFronts s d e a 4096 → CopiedPart s d e a 16384
fronts_whole a c = record { copied = c.copied; done = λ k h l. c.done k h l (omega arith) }

-- all of s
pub copied_whole : (s d e : List ℕ) → length s ≤ length d → CopiedPart s d e 0 (length s) → e ≡ front s d
copied_whole s d e q c =
    let whole : take (length s) s ≡ s = take_all (length s) s (omega arith) in
    let sizes : length e ≡ length (s ++ drop (length s) d) = simp (length-append, length-drop) (omega (arith, c.copied.same)) in
    ext_get_or 0 e (s ++ drop (length s) d) sizes
    (λ k h. by_order k (length s)
    (λ l. c.done k (omega arith) (omega arith) ∙ sym (get_or_left s (drop (length s) d) (length s) k refl l))
    (λ l. c.copied.rest k l ∙ sym (get_or_right s (drop (length s) d) (length s) k refl l ∙ get_or_behind d (length s) k l)))
    ∙ ap (λ (l : List ℕ). l ++ drop (length s) d) (sym whole)
