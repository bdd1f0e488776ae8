-- `record_layout::controller_at` meets its contract: each field is read from the bytes that the definition names.
-- Assumes nothing.
use mathlib.Core.Path.{◌∙◌}
use Rattle.arrays.specs.Back.{four_values}
use Rattle.record_layout.specs.Steps.{controller_is}
use Rattle.record_layout.proofs.controller_at.Goals as goal

pub returns : goal.returns
returns c =
    controller_is c.args.b.now (c.all_at-last.ensures ∙ four_values 28 c.args.b.now) c.reason_at-reason.ensures
