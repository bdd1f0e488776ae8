-- `answer_boundary::bumbazeel_field_byte` meets its contract: the byte of the fault with that number.
-- Assumes nothing.
use mathlib.Core.Path.{◌∙◌}
use Rattle.answer_boundary.proofs.bumbazeel_field_byte.Goals as goal

pub returns : goal.returns
returns c = c.byte_of.ensures ∙ rw c.fault_by.ensures
