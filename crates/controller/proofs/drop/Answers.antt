-- `controller::drop` meets its contract: both paths are steps of proofs/Steps.antt.
-- Assumes nothing.
use Rattle.std.proofs.Common.{refl}
use Rattle.answers.specs.Answers.{success, disagree}
use Rattle.controller.specs.Controller.{world}
use Rattle.controller.proofs.Steps.{dropped_is, drop_refused_is}
use Rattle.controller.proofs.drop.Goals as goal

pub returns-then-not-agrees : goal.returns-then-not-agrees
returns-then-not-agrees c =
    let a = c.args in
    drop_refused_is (world a.r a.host.now a.controller.now) (record { answer = disagree; class = 0; own = a.r }) c.agrees.ensures c.if-not-agrees.true refl

pub returns : goal.returns
returns c =
    let a = c.args in
    dropped_is (world a.r a.host.now a.controller.now) (record { answer = success; class = 0; own = c.dropped.result }) c.agrees.ensures c.if-not-agrees.false
    c.dropped.ensures refl
