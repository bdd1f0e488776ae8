-- `controller_boundary::record_after` meets its contract: a success writes the record's bytes, and a refusal keeps them.
-- Assumes nothing.
use Rattle.std.proofs.Common.{refl}
use Rattle.answers.specs.Answers.{success, refusal_number}
use Rattle.controller.proofs.Steps.{refused_number}
use Rattle.controller_boundary.proofs.Steps.{next_record, kept_record}
use Rattle.controller_boundary.proofs.record_after.Goals as goal

pub returns-in-Ok : goal.returns-in-Ok
returns-in-Ok c = λ r. rw c.in-Ok.is (next_record c.args.own.now success c.in-Ok.after refl c.write_record.ensures)

pub returns-in-Err : goal.returns-in-Err
returns-in-Err c = λ r. let e = c.in-Err.field-0 in rw c.in-Err.is (kept_record c.args.own.now (refusal_number e) r (refused_number e))
