-- `verdicts::on_capture` meets its contract: its returns are those of specs/Steps.antt.
-- Assumes nothing.
use Rattle.std.proofs.Common.{refl}
use Rattle.verdicts.specs.Steps.{capture_disagrees, capture_whole, capture_broken}
use Rattle.verdicts.proofs.on_capture.Goals as goal

pub returns-then-not-agrees : goal.returns-then-not-agrees
returns-then-not-agrees c = let a = c.args in (capture_disagrees a.r a.a a.lent c.agrees.ensures c.if-not-agrees.true, refl)

pub returns-then-fine-a : goal.returns-then-fine-a
returns-then-fine-a c =
    let a = c.args in
    (capture_whole a.r a.a a.lent c.agrees.ensures c.top.ensures c.last_of-kept.ensures c.candidate_ok-fine.ensures c.if-not-agrees.false c.if-fine-a.true, refl)

pub returns-else-fine-a : goal.returns-else-fine-a
returns-else-fine-a c =
    let a = c.args in
    (capture_broken a.r a.a a.lent c.agrees.ensures c.top.ensures c.last_of-kept.ensures c.candidate_ok-fine.ensures c.if-not-agrees.false c.if-fine-a.false, refl)
