-- `record_layout::write_record` meets its contract: the puts follow one another from byte 0 to the end.
-- Assumes nothing.
use Rattle.std.proofs.Common.{rules}
use Rattle.arrays.specs.Puts.{put_four}
use Rattle.record_layout.specs.Steps.{record_is}
use Rattle.record_layout.proofs.write_record.Goals as goal

pub returns : goal.returns
returns c =
    let host = c.put_reason.ensures in
    let controller = c.put_reason-2.ensures in
    record_is c.args.r host.1 controller.1 c.record_marks.ensures c.put.ensures c.put_le.ensures
    (put_four _ _ _ 12 (search rules) c.put_all.ensures) (put_four _ _ _ 28 (search rules) c.put_all-2.ensures) host.0 controller.0
