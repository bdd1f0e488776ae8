-- `sheet_layout::read_sheet` meets its contract: each number where it stands.
-- Assumes nothing.
use Rattle.std.proofs.Common.{refl}
use Rattle.sheet_layout.specs.Steps.{read_is}
use Rattle.sheet_layout.proofs.read_sheet.Goals as goal

pub returns : goal.returns
returns c =
    let b = c.args.b.now in
    read_is b (rw c.all_at-runs.ensures refl) c.value_at.ensures c.value_at-2.ensures c.value_at-3.ensures
