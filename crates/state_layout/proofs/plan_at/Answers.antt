-- `state_layout::plan_at` meets its contract: each field is read from the bytes that the definition names.
-- Assumes nothing.
use Rattle.state_layout.specs.Steps.{plan_is}
use Rattle.state_layout.proofs.plan_at.Goals as goal

pub returns : goal.returns
returns c =
    let a = c.args in
    plan_is a.b.now a.chunk a.attempts c.read_caps-caps.ensures c.value_at.ensures
