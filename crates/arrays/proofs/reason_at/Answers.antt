-- `arrays::reason_at` meets its contract: a whole array of 128 bytes is replaced by those from a place on.
-- Assumes nothing.
use Prim.Native.Nat.{ℕ}
use mathlib.Core.Path.{◌≡◌, ap, ◌∙◌}
use native.Mathlib.Nat.{add-sub_cancel_left}
use native.Mathlib.Omega.{arith}
use lib.ListN.{length, take, drop, length-take, length-drop}
use Rattle.copies.specs.Parts.{zeros, put_at, put_whole}
use Rattle.arrays.proofs.reason_at.Goals as goal

pub returns : goal.returns
returns c =
    let a = c.args in
    let b = a.b.now in
    let k : 128 ≡ length (take 128 (drop a.i b)) = simp (length-take, length-drop) (omega arith) in
    c.put.ensures
    ∙ ap (λ (n : ℕ). put_at (zeros 128) 0 (take n (drop a.i b))) (add-sub_cancel_left a.i 128)
    ∙ put_whole (zeros 128) (take 128 (drop a.i b)) k
