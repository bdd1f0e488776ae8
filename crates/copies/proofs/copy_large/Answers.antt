-- `copies::copy_large` meets its contract: after k turns the first k times four pages agree with `src`, and the last part takes the rest.
-- Assumes nothing.
use mathlib.Core.Path.{◌≡◌}
use Prim.Native.Nat.{◌+◌, ◌-◌, ◌*◌, ◌/◌}
use native.Mathlib.Omega.{arith}
use lib.ListN.{length}
use Rattle.copies.specs.Copied.{part_then, copied_whole}
use Rattle.copies.proofs.copy_large.Goals as goal

pub returns : goal.returns
returns c =
    let l = c.loop-k in
    let src = c.args.src.now in
    let n = length src / 16384 in
    let f : l.k ≡ n = omega arith in
    let e : 16384 * n + (length src - 16384 * n) ≡ length src = omega arith in
    copied_whole src c.args.dst.now c.copy_part.new.dst c.requires
    (rw e at (part_then (16384 * n) (length src - 16384 * n) (rw f at l.invariant) c.copy_part.ensures))
