-- `state_layout::read_state` meets its contract: each field is read from the bytes that the definition names.
-- Assumes nothing.
use mathlib.Core.Path.{◌∙◌}
use Rattle.arrays.specs.Back.{four_values}
use Rattle.state_layout.specs.Steps.{read_is}
use Rattle.state_layout.proofs.read_state.Goals as goal

pub returns : goal.returns
returns c =
    read_is c.args.b.now (c.all_at-n.ensures ∙ four_values 8 c.args.b.now) c.plan_at-plan.ensures c.phase_of-phase.ensures c.value_at.ensures
    (c.all_at-last.ensures ∙ four_values 40 c.args.b.now)
