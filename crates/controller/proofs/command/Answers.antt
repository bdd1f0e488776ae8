-- `controller::command` meets its contract: judged, made, sent and acknowledged; a refusal leaves everything as it is.
-- Assumes nothing.
use Rattle.std.specs.Prelude.{Err}
use Rattle.std.proofs.Common.{refl, ap, ◌∙◌}
use Rattle.std.proofs.lemmas.Result.{err_from_is_err_and}
use Rattle.answers.specs.Answers.{success, refusal_number}
use Rattle.controller.specs.Controller.{world, candidate_of, answered_by}
use Rattle.controller.proofs.Steps.{create_host, command_is, command_accepted, refused_number, refusal_given, refused_is, served_is}
use Rattle.controller.proofs.command.Goals as goal

pub returns-in_err-on_command : goal.returns-in_err-on_command
returns-in_err-on_command c =
    let a = c.args in
    let w = world a.r a.host.now a.controller.now in
    let candidate = candidate_of a.candidate.last a.candidate.bytes.now a.candidate.reason.now in
    let e = c.in_err-on_command.field-0.0 in
    let h = rw (c.lent-lent.ensures) at c.in_err-on_command.ensures in
    let x = err_from_is_err_and c.from_residual.result c.from_residual.ensures.1 in
    command_is w candidate a.words a.buf.now c.read-c.ensures h.0
    (refused_is w candidate c.read-c.result a.buf.now (refusal_number e) (answered_by a.r c.from_residual.result) (refused_number e)
    (refusal_given a.r e (x.1 ∙ ap Err x.2) (rw (← h.0) at h.1)))

pub returns : goal.returns
returns c =
    let a = c.args in
    let w = world a.r a.host.now a.controller.now in
    let candidate = candidate_of a.candidate.last a.candidate.bytes.now a.candidate.reason.now in
    let h = rw (c.lent-lent.ensures) at c.in_ok-on_command.ensures.0 in
    command_is w candidate a.words a.buf.now c.read-c.ensures h
    (served_is w candidate c.read-c.result a.buf.now success (record { answer = success; class = 0; own = c.acknowledged.result }) refl
    (command_accepted w candidate a.buf.now c.read-c.result success h refl)
    (create_host a.r.caps.extended a.words c.read-c.result c.read-c.ensures)
    c.created-next.ensures c.send.ensures c.acknowledged.ensures refl)
