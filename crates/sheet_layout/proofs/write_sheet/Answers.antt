-- `sheet_layout::write_sheet` meets its contract: the puts follow one another from byte 0 to the end.
-- Assumes nothing.
use Rattle.std.proofs.Common.{refl, rules}
use Rattle.sheet_layout.specs.Steps.{put_eight, sheet_is}
use Rattle.sheet_layout.proofs.write_sheet.Goals as goal

pub returns : goal.returns
returns c =
    sheet_is c.args.s refl c.check_of.ensures c.put_le.ensures (put_eight c.args.s.runs _ _ 8 (search rules) c.put_all.ensures)
    c.put_le-2.ensures c.put_le-3.ensures c.put_le-4.ensures c.put_le-5.ensures
