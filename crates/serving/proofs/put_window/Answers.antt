-- `serving::put_window` meets its contract: the window is the three runs that the lesser numbers work out, and they fill it.
-- Assumes nothing.
use Rattle.std.specs.Prelude.{ℕ, ◌+◌, ◌-◌, ◌≤◌, min, ◌≡◌, List, ◌++◌, length, take, drop}
use Rattle.std.proofs.Common.{ap, ◌∙◌, arith, take_all, length-take, length-drop}
use Rattle.std.proofs.Math.Nat.{add-sub_cancel_left}
use Rattle.copies.specs.Parts.{zeros}
use Rattle.pages.specs.Pages.{block}
use Rattle.serving.specs.Serving.{lesser_of, window_of}
use Rattle.serving.specs.Runs.{runs_of, window_runs}
use Rattle.serving.proofs.put_window.Goals as goal

part : (l : List ℕ) (i j : ℕ) → take (i + j - i) (drop i l) ≡ take j (drop i l)
part l i j = ap (λ (n : ℕ). take n (drop i l)) (add-sub_cancel_left i j)

part_length : (l : List ℕ) (i j : ℕ) → i + j ≤ length l → length (take j (drop i l)) ≡ j
part_length l i j h = simp (length-take, length-drop) (omega arith)

-- from a on, as many as there are up to y
ends_within : (x len y a n : ℕ) → a ≡ min x y → n ≡ min len (y - a) → a + n ≤ y
ends_within x len y a n ea en = omega arith

rest : (len n k : ℕ) → len - (n + k) ≡ len - n - k
rest len n k = omega arith

window : (h s : List ℕ) (off len a n b k : ℕ) {w : List ℕ} → length h ≡ block
    → a ≡ min off block → n ≡ min len (block - a) → b ≡ min (off - a) (length s) → k ≡ min (len - n) (length s - b)
    → w ≡ (take (a + n - a) (drop a h) ++ take (b + k - b) (drop b s)) ++ zeros (len - (length (take (a + n - a) (drop a h)) + length (take (b + k - b) (drop b s))))
    → w ≡ window_of off len (h ++ s)
unfolding runs_of lesser_of
window h s off len a n b k eh ea en eb ek e =
    let p = ends_within off len block a n ea en in
    let q = ends_within (off - a) (len - n) (length s) b k eb ek in
    e
    ∙ rw (part h a n, part s b k, part_length h a n (omega arith), part_length s b k q, rest len n k)
    (window_runs h s (length s) off len a n b k eh (omega arith) ea en eb ek)
    ∙ ap (λ (l : List ℕ). window_of off len (h ++ l)) (take_all (length s) s (omega arith))

pub returns : goal.returns
returns c =
    let a = c.args in
    window a.header.now a.blocks.now a.offset (length a.buf.now) c.min-a.result c.min-n.result c.min-b.result c.min-k.result
    c.requires c.min-a.ensures c.min-n.ensures c.min-b.ensures c.min-k.ensures c.put_runs.ensures
