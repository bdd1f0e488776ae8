-- What a program's first command tells: setup took its plan, and where none of its commands is answered 3, 4 or 5, the record was intact and agreed with
-- its stores.
-- Assumes nothing.
use Rattle.std.specs.Prelude.{ℕ, ◌≤◌, refl, List, [], ◌∷◌, true, false, eqb}
use Rattle.std.proofs.Math.Path.{◌≡◌}
use Rattle.std.proofs.Common.{sym, ap, subst, ◌∙◌, arith}
use Rattle.choices.specs.Choice.{pick_cases, one}
use Rattle.choices.specs.Tests.{by_test, same_or_not}
use Rattle.answers.specs.Answers.{success, disagree}
use Rattle.words.specs.declared.Words.{Words}
use Rattle.records.specs.Back.{Typed}
use Rattle.plans.specs.declared.Plan.{Plan}
use Rattle.plans.specs.Plans.{setup_answer}
use Rattle.collection.specs.Told.{Stepped}
use Rattle.collection.specs.Collection.{setup_of}
use Rattle.collection.specs.Steps.{setup_refused}
use Rattle.verdicts.specs.Accepted.{unless_disagree}
use Rattle.controller.specs.Controller.{Candidate, lent_by}
use Rattle.controller.specs.Asked.{asked}
use Rattle.controller.proofs.Laws.{command_answer_lem}
use Rattle.sources.specs.Source.{Turn, for_lent}
use Rattle.demand3.specs.Bench.{Event, Loan, controller_source}
use Rattle.demand3.specs.Own.{not_four}
use Rattle.record_layout.specs.Layout.{record_at, record_intact}
use Rattle.next_layout.specs.Layout.{send, refusal, kind_of, next_bytes}
use Rattle.controller_boundary.specs.Boundary.{command_at}
use Rattle.c_calls.specs.Calls.{Controller, command, Program, kind_in, words_in, own, happens, happen, turn, turns, begins, program}
use Rattle.c_calls.specs.Next.{kind_back}
use Rattle.c_calls.specs.Same.{world_at, Fit, command_answers}

-- setup answers BUMBAZEEL_SEND where it takes the plan alone
pub setup_sends : (p : Plan) → kind_of (setup_of p).next ≡ send → setup_answer p ≡ success
setup_sends p e =
    same_or_not (setup_answer p) success (λ q. q)
    (λ n. let z : refusal ≡ send = sym (ap (λ (x : Stepped). kind_of x.next) (setup_refused p n)) ∙ e in absurd (omega arith))

-- a damaged record's command is answered 4
damaged_answers : (b : Controller) → record_intact b.own ≡ false → (candidate : Candidate) (words : Words) (buf : List ℕ)
    → (command b candidate words buf).answer ≡ disagree
unfolding command_at
damaged_answers b d candidate words buf = rw d

-- ---- answers of 3, 4 and 5 stay counted

own_grows : (words : Words) (l : Loan) (c : Program) → c.counts.lent_refusals ≤ (own words l c).counts.lent_refusals
unfolding own
own_grows words l c = omega arith

happen_keeps : (p : Plan) (es : List Event) (c : Program) → (happen p es c).counts.lent_refusals ≡ c.counts.lent_refusals
unfolding happen happens
happen_keeps p [] c = refl
happen_keeps p (e ∷ es) c = happen_keeps p es (happens p e c)

turns_grow : (p : Plan) (ts : List (Turn (controller_source p.page))) (c : Program) → c.counts.lent_refusals ≤ (turns p ts c).counts.lent_refusals
unfolding turns turn
turns_grow p [] c = omega arith
turns_grow p (t ∷ ts) c =
    let by_turn : c.counts.lent_refusals ≤ (turn p t c).counts.lent_refusals =
    pick_cases (λ (x : Program). c.counts.lent_refusals ≤ x.counts.lent_refusals) (eqb (kind_in c.next) send)
    (λ e. omega (arith, own_grows (words_in c.next) t.lent (happen p t.events c), happen_keeps p t.events c))
    (λ e. omega arith) in
    omega (arith, by_turn, turns_grow p ts (turn p t c))

-- ---- the first command

module _ (p : Plan) (copy : List ℕ) (b : Controller) (first : Loan) (ts : List (Turn (controller_source p.page)))
    (sends : kind_of (setup_of p).next ≡ send) (spared : (program p copy b first ts).counts.lent_refusals ≡ 0) where
  abbrev words : Words
  words = words_in (next_bytes (setup_of p).next)

  abbrev answer : ℕ
  answer = (command b first.candidate words first.buf).answer

  abbrev opened : Program
  opened = turn p (record { events = []; lent = first }) (begins p copy b)

  counts_first : opened.counts.lent_refusals ≡ one (for_lent answer)
  unfolding turn begins own happen
  counts_first = rw (kind_back (setup_of p).next ∙ sends) (omega arith)

  first_fair : for_lent answer ≡ false
  unfolding program
  first_fair =
      let z : one (for_lent answer) ≡ 0 = omega (arith, counts_first, turns_grow p ts opened, spared) in
      by_test (for_lent answer) (λ t. let o : ◌≡◌ {A = ℕ} 1 0 = rw t at z in absurd (omega arith)) (λ f. f)

  first_intact : record_intact b.own ≡ true
  first_intact =
      by_test (record_intact b.own) (λ i. i) (λ d. absurd (not_four answer first_fair (damaged_answers b d first.candidate words first.buf)))

  -- A program none of whose commands was answered 3, 4 or 5 began with an intact record that agrees with its stores.
  pub first_fit : Typed (record_at b.own) → (record_at b.own).caps ≡ p.caps → Fit p b
  first_fit typed caps =
      let w = world_at b in
      let is = command_answers b first_intact first.candidate words first.buf ∙ command_answer_lem w first.candidate words first.buf in
      record {
        intact = first_intact;
        good = record {
          agrees =
              unless_disagree w.own (asked w words) first.candidate.last (lent_by w first.candidate first.buf)
              (not_four _ (subst (λ (n : ℕ). for_lent n ≡ false) is first_fair));
          typed = typed;
          caps = caps;
        };
      }
