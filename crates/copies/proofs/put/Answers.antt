-- `copies::put` meets its contract: where src fits, the part from the place on comes back with src in front; where it does not,
-- nothing was written.
-- Assumes nothing.
use mathlib.Core.Path.{sym}
use native.Mathlib.Omega.{arith}
use Rattle.copies.specs.Parts.{copy_back, put_not}
use Rattle.copies.proofs.put.Goals.{else-src-dst-via-then-src-dst+else-place-dst, else-src-dst-via-else-src-dst}
use Rattle.copies.proofs.put.Goals as goal

pub returns-then-place-dst : goal.returns-then-place-dst
returns-then-place-dst c =
    let a = c.args in
    copy_back a.dst.now a.src.now a.place (omega arith) c.copy_all.new.dst c.copy_all.ensures

pub returns-else-src-dst : goal.returns-else-src-dst
returns-else-src-dst c =
    let a = c.args in
    elim c.else-src-dst.branch [
      | else-src-dst-via-then-src-dst+else-place-dst w ↦ sym (put_not a.dst.now a.place a.src.now (omega arith))
      | else-src-dst-via-else-src-dst w ↦ sym (put_not a.dst.now a.place a.src.now (omega arith))
    ]
