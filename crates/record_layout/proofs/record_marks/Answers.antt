-- `record_layout::record_marks` meets its contract: each byte is the definition's.
-- Assumes nothing.
use Rattle.record_layout.specs.Steps.{marks_are}
use Rattle.record_layout.proofs.record_marks.Goals as goal

pub returns : goal.returns
returns c =
    marks_are c.args.r c.caps_byte-can.ensures c.bit-notice.ensures.0
