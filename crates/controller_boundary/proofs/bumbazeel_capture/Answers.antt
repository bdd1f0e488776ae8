-- `controller_boundary::bumbazeel_capture` meets its contract: a damaged record is refused, and any other capture leaves what the outcome says.
-- Assumes nothing.
use Rattle.std.proofs.Common.{ap, not}
use Rattle.controller.specs.Controller.{candidate_of}
use Rattle.controller_boundary.proofs.Steps.{capture_damaged, capture_given}
use Rattle.controller_boundary.proofs.bumbazeel_capture.Goals as goal

pub returns-then-not-record_intact : goal.returns-then-not-record_intact
returns-then-not-record_intact c =
    let a = c.args in
    capture_damaged a.own.now a.host_store.now a.controller_store.now
    (candidate_of a.last.now a.bytes.now a.reason.now) c.record_intact.ensures (ap not c.if-not-record_intact.true)

pub returns : goal.returns
returns c =
    let a = c.args in
    capture_given a.own.now a.host_store.now a.controller_store.now
    (candidate_of a.last.now a.bytes.now a.reason.now) c.capture-taken.result c.record_intact.ensures (ap not c.if-not-record_intact.false)
    c.read_record.ensures c.capture-taken.ensures (c.record_after.ensures c.read_record.result) c.number.ensures
