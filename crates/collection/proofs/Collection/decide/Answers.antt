-- `collection::Collection::decide` meets its contract: a completion that is not refused finds a valid state, whose numbers are bounded; its move is judged, its
-- turn taken and the state moved.
-- Assumes nothing.
use Rattle.std.proofs.Common.{refl, sym, ◌∙◌}
use Rattle.std.proofs.lemmas.Bool.{eqb-false}
use Rattle.answers.specs.Answers.{success}
use Rattle.answers.specs.Refused.{refused_is}
use Rattle.collection.specs.Collection.{move_of, turn_by}
use Rattle.collection.specs.Laws.{not_refused, valid_bounded, refusal_is, decide_yes, decide_no}
use Rattle.collection.proofs.Collection.decide.Goals as goal

pub act-requires : goal.act-requires
act-requires c =
    let a = c.args in
    let answer = rw c.in-Ok.is at c.refusal.ensures in
    valid_bounded a.self (not_refused a.self a.offered.ok a.offered.bytes a.offered.copy (sym (answer ∙ refusal_is a.self a.offered.ok a.offered.bytes a.offered.copy))).state

pub returns-in-Ok : goal.returns-in-Ok
unfolding move_of turn_by
returns-in-Ok c =
    let a = c.args in
    let answer = rw c.in-Ok.is at c.refusal.ensures in
    decide_yes a.self a.offered.ok a.offered.bytes a.offered.copy a.seen _ _ _ (answer ∙ refusal_is a.self a.offered.ok a.offered.bytes a.offered.copy) refl refl
    (rw (c.act.ensures, c.turn_of-t.ensures, c.judge-m.ensures))

pub returns-in-Err : goal.returns-in-Err
returns-in-Err c =
    let a = c.args in
    let answer = rw c.in-Err.is at c.refusal.ensures in
    decide_no a.self a.offered.ok a.offered.bytes a.offered.copy a.seen _ _ (answer ∙ refusal_is a.self a.offered.ok a.offered.bytes a.offered.copy) (eqb-false _ success (refused_is c.in-Err.refusal)) refl
