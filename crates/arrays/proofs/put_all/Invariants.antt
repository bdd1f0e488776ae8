use Rattle.std.proofs.Common.{◌≡◌, take}
use Rattle.copies.specs.Parts.{put_at}
use Rattle.arrays.specs.Arrays.{numbers_of}
use Rattle.arrays.proofs.put_all.Given as goal

abbrev pub invariant-loop-k : goal.invariant-loop-k
invariant-loop-k g l = l.out ≡ put_at l.initial.out l.at (numbers_of g.T.LittleEndian.WIDTH g.T.LittleEndian.number (take l.k l.all))
