-- What the code's calls come to, one after another.
-- Assumes nothing.
use Rattle.std.specs.Prelude.{ℕ, ◌≡◌, List, Bool, true, false, not, ◌&&◌, get_or, ltb}
use Rattle.std.proofs.Common.{◌∙◌}
use Rattle.choices.specs.Choice.{pick}
use Rattle.answers.specs.Answers.{success, disagree, broken_candidate}
use Rattle.pages.specs.Pages.{telemetry_page, last_of, size_of, per_page}
use Rattle.trimming.specs.Trimming.{top_of, trim_of}
use Rattle.words.specs.declared.Command.{Command}
use Rattle.records.specs.declared.Record.{Record}
use Rattle.records.specs.Records.{agrees_with}
use Rattle.verdicts.specs.declared.Lent.{Lent}
use Rattle.verdicts.specs.Verdicts.{command_order, candidate_ok, field_bad, last_after, command_answer, capture_answer}

pub command_is : (r : Record) (c : Command) (a : List ℕ) (lent : Lent) {m kept s x : ℕ} {last : List ℕ} {g f k : Bool}
    → m ≡ top_of r.caps c.mcda
    → kept ≡ last_of m a
    → last ≡ last_after r c a
    → g ≡ agrees_with r lent.host lent.controller
    → f ≡ field_bad r.caps c
    → k ≡ candidate_ok kept a lent.bytes lent.reason lent.host
    → s ≡ size_of r.caps last
    → x ≡ command_order (not g) (not (telemetry_page c.page && r.caps.telemetry)) f (c.create && not k) (ltb s c.offset) (ltb lent.buf c.bytes)
    → x ≡ command_answer r c a lent
unfolding command_answer
command_is r c a lent em ek el eg ef ec es ex = ex ∙ rw (eg, ef, ec, ek, em, es, el)

-- the last blocks of the page asked for, the captured ones chosen before
pub last_is : (r : Record) (c : Command) (a : List ℕ) {captured chosen : List ℕ} → captured ≡ trim_of r.caps c.mcda a → chosen ≡ pick c.create captured r.host.last
    → per_page c.page chosen r.controller.last ≡ last_after r c a
unfolding last_after
last_is r c a e f = rw (f, e)

-- the returns of a capture: the record disagrees; or it agrees, and the candidate is whole or broken
pub capture_disagrees : (r : Record) (a : List ℕ) (lent : Lent) {g : Bool} → g ≡ agrees_with r lent.host lent.controller → g ≡ false
    → disagree ≡ capture_answer r a lent
unfolding capture_answer
capture_disagrees r a lent e f = rw (← e, f)

module _ (r : Record) (a : List ℕ) (lent : Lent) {m kept : ℕ} {g k : Bool}
    (eg : g ≡ agrees_with r lent.host lent.controller)
    (em : m ≡ top_of r.caps 0)
    (ek : kept ≡ last_of m a)
    (ec : k ≡ candidate_ok kept a lent.bytes lent.reason lent.controller)
    (agrees : g ≡ true) where
  pub capture_whole : k && ltb 0 (get_or a 2 0) ≡ true → success ≡ capture_answer r a lent
  unfolding capture_answer
  capture_whole f = rw (← eg, agrees, ← em, ← ek, ← ec, f)

  pub capture_broken : k && ltb 0 (get_or a 2 0) ≡ false → broken_candidate ≡ capture_answer r a lent
  unfolding capture_answer
  capture_broken f = rw (← eg, agrees, ← em, ← ek, ← ec, f)
