-- `verdicts::on_command` meets its contract: each return has the tests of the order up to its own.
-- Assumes nothing.
use Rattle.std.proofs.Common.{refl, lt-ltb}
use Rattle.std.proofs.lemmas.Bool.{le-ltb}
use Rattle.verdicts.specs.Verdicts.{command_answer}
use Rattle.verdicts.proofs.on_command.Goals as goal

pub returns-then-not-agrees : goal.returns-then-not-agrees
unfolding command_answer
returns-then-not-agrees c = rw (← c.agrees.ensures, c.if-not-agrees.true) (refl, refl)

pub returns-then-not-c-r : goal.returns-then-not-c-r
unfolding command_answer
returns-then-not-c-r c = rw (← c.agrees.ensures, c.if-not-agrees.false, c.if-not-c-r.true) (refl, c.class.ensures)

pub returns-then-field_bad : goal.returns-then-field_bad
unfolding command_answer
returns-then-field_bad c = rw (← c.agrees.ensures, c.if-not-agrees.false, c.if-not-c-r.false, ← c.field_bad.ensures, c.if-field_bad.true) (refl, refl)

pub returns-then-c-candidate_ok : goal.returns-then-c-candidate_ok
unfolding command_answer
returns-then-c-candidate_ok c =
    rw (
      ← c.agrees.ensures,
      c.if-not-agrees.false,
      c.if-not-c-r.false,
      ← c.field_bad.ensures,
      c.if-field_bad.false,
      ← c.top.ensures,
      ← c.last_of-kept.ensures,
      ← c.candidate_ok.ensures,
      c.if-c-candidate_ok.true,
    ) (refl, refl)

pub returns-then-size-c : goal.returns-then-size-c
unfolding command_answer
returns-then-size-c c =
    rw (
      ← c.agrees.ensures,
      c.if-not-agrees.false,
      c.if-not-c-r.false,
      ← c.field_bad.ensures,
      c.if-field_bad.false,
      ← c.top.ensures,
      ← c.last_of-kept.ensures,
      ← c.candidate_ok.ensures,
      c.if-c-candidate_ok.false,
      ← c.last_after-last.ensures,
      ← c.size.ensures,
      lt-ltb _ _ c.if-size-c.true,
    ) (refl, refl)

pub returns-then-lent-c : goal.returns-then-lent-c
unfolding command_answer
returns-then-lent-c c =
    rw (
      ← c.agrees.ensures,
      c.if-not-agrees.false,
      c.if-not-c-r.false,
      ← c.field_bad.ensures,
      c.if-field_bad.false,
      ← c.top.ensures,
      ← c.last_of-kept.ensures,
      ← c.candidate_ok.ensures,
      c.if-c-candidate_ok.false,
      ← c.last_after-last.ensures,
      ← c.size.ensures,
      le-ltb _ _ c.if-size-c.false,
      lt-ltb _ _ c.if-lent-c.true,
    ) (refl, refl)

pub returns : goal.returns
unfolding command_answer
returns c =
    rw (
      ← c.agrees.ensures,
      c.if-not-agrees.false,
      c.if-not-c-r.false,
      ← c.field_bad.ensures,
      c.if-field_bad.false,
      ← c.top.ensures,
      ← c.last_of-kept.ensures,
      ← c.candidate_ok.ensures,
      c.if-c-candidate_ok.false,
      ← c.last_after-last.ensures,
      ← c.size.ensures,
      le-ltb _ _ c.if-size-c.false,
      le-ltb _ _ c.if-lent-c.false,
    ) (refl, refl)
