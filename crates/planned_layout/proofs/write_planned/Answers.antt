-- `planned_layout::write_planned` meets its contract: the puts follow one another, and the last ends where the array ends.
-- Assumes nothing.
use Rattle.std.proofs.Common.{rules}
use Rattle.arrays.specs.Puts.{put_four}
use Rattle.completions.specs.Plan.{Planned}
use Rattle.planned_layout.specs.Back.{planned_is}
use Rattle.planned_layout.proofs.write_planned.Goals as goal

pub returns : goal.returns
returns c answer =
    let a = c.args in
    let reason = c.put_reason.ensures in
    let x : Planned = record { answer = answer; fault = a.fault; fields = a.fields; chunks = a.chunks } in
    planned_is a.page x reason.1 (c.marks.ensures answer a.chunks) c.put.ensures c.put_le.ensures (put_four _ _ _ 12 (search rules) c.put_all.ensures) reason.0
    c.put_le-2.ensures
