-- `copies::copy_pages` meets its contract: after k turns the first 256 k bytes of all four pages agree with `src`.
-- Assumes nothing.
use mathlib.Core.Path.{◌≡◌}
use native.Mathlib.Omega.{arith}
use Rattle.copies.specs.Copied.{fronts_whole}
use Rattle.copies.proofs.copy_pages.Goals as goal

pub returns : goal.returns
returns c =
    let l = c.loop-k in
    let e : l.k ≡ 16 = omega arith in
    fronts_whole c.args.at (rw e at l.invariant)
