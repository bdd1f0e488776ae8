-- `state_layout::state_intact` meets its contract: the chain of tests is the row of tests.
-- Assumes nothing.
use Rattle.state_layout.specs.Steps.{intact_is}
use Rattle.state_layout.proofs.state_intact.Goals as goal

pub returns : goal.returns
returns c =
    intact_is c.args.b.now c.value_at.ensures
