-- `copies::put_zeros` meets its contract: where they fit, the part comes back as zeros; where they do not, nothing was written.
-- Assumes nothing.
use mathlib.Core.Path.{sym}
use native.Mathlib.Omega.{arith}
use Rattle.copies.specs.Parts.{zeros, length-zeros, zero_back, put_not}
use Rattle.copies.proofs.put_zeros.Goals.{else-count-dst-via-then-count-dst+else-place-dst, else-count-dst-via-else-count-dst}
use Rattle.copies.proofs.put_zeros.Goals as goal

pub returns-then-place-dst : goal.returns-then-place-dst
returns-then-place-dst c =
    let a = c.args in
    zero_back a.dst.now a.place a.count (omega arith) c.fill.new.self (c.fill.ensures.after (λ y e. e))

pub returns-else-count-dst : goal.returns-else-count-dst
returns-else-count-dst c =
    let a = c.args in
    elim c.else-count-dst.branch [
      | else-count-dst-via-then-count-dst+else-place-dst w ↦ sym (put_not a.dst.now a.place (zeros a.count) (omega (arith, length-zeros a.count)))
      | else-count-dst-via-else-count-dst w ↦ sym (put_not a.dst.now a.place (zeros a.count) (omega (arith, length-zeros a.count)))
    ]
