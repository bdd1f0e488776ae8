use Rattle.std.proofs.Common.{◌*◌}
use Rattle.copies.specs.Copied.{CopiedFronts}
use Rattle.copies.proofs.copy_pages.Given as goal

abbrev pub invariant-loop-k : goal.invariant-loop-k
invariant-loop-k l = CopiedFronts l.src l.initial.dst l.dst l.at (256 * l.k)
