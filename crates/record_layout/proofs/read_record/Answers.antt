-- `record_layout::read_record` meets its contract: each field is read from the bytes that the definition names.
-- Assumes nothing.
use Rattle.record_layout.specs.Steps.{read_is}
use Rattle.record_layout.proofs.read_record.Goals as goal

pub returns : goal.returns
returns c =
    read_is c.args.b.now c.read_caps-caps.ensures c.value_at.ensures c.host_at-host.ensures
    c.controller_at-controller.ensures
