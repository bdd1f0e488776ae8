-- `header::write` meets its contract: the puts follow one another, and the reason ends where the header ends.
-- Assumes nothing.
use Rattle.std.proofs.Common.{rules}
use Rattle.arrays.specs.Puts.{put_four}
use Rattle.header.specs.Back.{write_is}
use Rattle.header.proofs.write.Goals as goal

pub returns : goal.returns
returns c =
    let start = c.args in
    let reason = c.put_reason.ensures in
    write_is start.f c.words_of-words.result reason.1 c.words_of-words.ensures c.marks_of.ensures
    (put_four _ _ _ 4 (search rules) c.put_all.ensures) c.put.ensures reason.0
