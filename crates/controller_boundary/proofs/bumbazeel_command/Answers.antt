-- `controller_boundary::bumbazeel_command` meets its contract: a damaged record is refused, and any other command leaves what the outcome says.
-- Assumes nothing.
use Rattle.std.proofs.Common.{ap, not, rules}
use Rattle.controller.specs.Controller.{candidate_of}
use Rattle.controller_boundary.specs.Boundary.{words_of}
use Rattle.controller_boundary.proofs.Steps.{command_damaged, command_given}
use Rattle.controller_boundary.proofs.bumbazeel_command.Goals as goal

pub returns-then-not-record_intact : goal.returns-then-not-record_intact
returns-then-not-record_intact c =
    let a = c.args in
    command_damaged a.own.now a.host_store.now a.controller_store.now
    (candidate_of a.last.now a.bytes.now a.reason.now) (words_of a.words.now) a.buffer.now
    c.record_intact.ensures (ap not c.if-not-record_intact.true)

pub returns : goal.returns
returns c =
    let a = c.args in
    command_given a.own.now a.host_store.now a.controller_store.now
    (candidate_of a.last.now a.bytes.now a.reason.now) (words_of a.words.now) a.buffer.now
    c.command-answer.result c.record_intact.ensures (ap not c.if-not-record_intact.false) c.read_record.ensures c.words_of.ensures
    c.command-answer.ensures (c.record_after.ensures c.read_record.result) (search rules) (search rules)
