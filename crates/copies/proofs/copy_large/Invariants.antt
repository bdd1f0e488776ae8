use Rattle.std.proofs.Common.{◌*◌}
use Rattle.copies.specs.Copied.{CopiedPart}
use Rattle.copies.proofs.copy_large.Given as goal

abbrev pub invariant-loop-k : goal.invariant-loop-k
invariant-loop-k l = CopiedPart l.src l.initial.dst l.dst 0 (16384 * l.k)
