-- `controller_boundary::bumbazeel_drop` meets its contract: a damaged record is refused, and any other drop leaves what the outcome says.
-- Assumes nothing.
use Rattle.std.proofs.Common.{ap, not}
use Rattle.controller_boundary.proofs.Steps.{drop_damaged, drop_given}
use Rattle.controller_boundary.proofs.bumbazeel_drop.Goals as goal

pub returns-then-not-record_intact : goal.returns-then-not-record_intact
returns-then-not-record_intact c =
    let a = c.args in
    drop_damaged a.own.now a.host_store.now a.controller_store.now c.record_intact.ensures (ap not c.if-not-record_intact.true)

pub returns : goal.returns
returns c =
    let a = c.args in
    drop_given a.own.now a.host_store.now a.controller_store.now c.drop-dropped.result
    c.record_intact.ensures (ap not c.if-not-record_intact.false)
    c.read_record.ensures c.drop-dropped.ensures (c.record_after.ensures c.read_record.result) c.number.ensures
