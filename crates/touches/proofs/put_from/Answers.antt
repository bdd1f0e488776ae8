-- `touches::put_from` meets its contract: where the data ends before the byte nothing is written.
-- Assumes nothing.
use Rattle.std.proofs.Common.{sym, arith}
use Rattle.touches.specs.Touched.{put_past}
use Rattle.touches.proofs.put_from.Goals as goal

pub returns-in_default : goal.returns-in_default
returns-in_default c =
    let a = c.args in
    let l = c.in_default.ensures.lookup in
    sym (put_past a.data.now a.copy.now a.from a.place (omega arith))
