-- `sheet_layout::sheet_intact` meets its contract: the mark, the check and the totals, one test after another.
-- Assumes nothing.
use Rattle.sheet_layout.specs.Steps.{intact_is}
use Rattle.sheet_layout.proofs.sheet_intact.Goals as goal

pub returns : goal.returns
returns c =
    intact_is c.args.b.now c.read_sheet-s.ensures c.value_at-mark.ensures c.value_at-check.ensures c.check_of.ensures c.is_possible.ensures
