-- Document 02, Q-2, of a collection: a 7 carries what is at fault in the header just read, at a first and at a later header, and no other answer carries anything.
-- Assumes nothing.
use Rattle.std.specs.Prelude.{ℕ, ◌≡◌, List, Bool, length, Option, None}
use Rattle.std.proofs.Math.Path.{refl, ap}
use Rattle.std.proofs.Common.{◌∙◌, eq-eqb, ne_eqb}
use Rattle.std.proofs.Math.Bool.{true, false}
use Rattle.std.proofs.Math.Dec.{eqb}
use Rattle.std.proofs.lemmas.Bool.{eqb-false}
use Rattle.choices.specs.Choice.{pick}
use Rattle.choices.specs.Tests.{same_or_not}
use Rattle.answers.specs.Answers.{success, bad_header}
use Rattle.pages.specs.Pages.{block}
use Rattle.header.specs.declared.Fault.{Fault}
use Rattle.header.specs.Header.{faultless, check_of}
use Rattle.plans.specs.declared.Plan.{Plan}
use Rattle.phases.specs.Phases.{judged_by, ended_by, by_header}
use Rattle.plans.specs.Plans.{setup_answer}
use Rattle.phases.specs.Awaited.{header_block}
use Rattle.completions.specs.declared.Seen.{Seen}
use Rattle.completions.specs.Completions.{seen_of}
use Rattle.completions.specs.Looked.{look_bad}
use Rattle.endings.specs.declared.Ending.TheVariants.{BadHeader}
use Rattle.judgement.specs.declared.Move.{Move}
use Rattle.refusals.specs.Refusals.{first_refusal}
use Rattle.collection.specs.declared.Collection.{Collection}
use Rattle.collection.specs.Told.{Stepped}
use Rattle.collection.specs.Collection.{valid_state, completion_fits, refusal_of, expected_of, look_of, move_of, ends, setup_of, step_of, answer_of, fault_said}
use Rattle.collection.specs.Laws.{state_valid, not_refused, Says, says_nothing, move_cases}
use Rattle.collection.specs.Steps.{ended_in, makes, setup_taken, setup_refused, refused_step, taken_step, first_bad, later_bad}

-- setup's answer carries nothing
pub setup_carries : (p : Plan) → fault_said (setup_of p).next ≡ None
setup_carries p = same_or_not (setup_answer p) success (λ e. rw (setup_taken p e)) (λ e. rw (setup_refused p e))

-- what a move says
abbrev Tells : Collection → Bool → Seen → Stepped → Type 0
Tells s ok h x = Says s ok h (answer_of x.next) (fault_said x.next)

tells : (s : Collection) (ok : Bool) (h : Seen) → Tells s ok h (makes s h (move_of s ok h))
unfolding makes
tells s ok h = move_cases (λ (m : Move). Tells s ok h (makes s h m)) s ok h (record {
  fail = λ e l t. t;
  short = λ e l t f u. t;
  first = λ f r. says_nothing refl refl;
  again = λ f l r. says_nothing refl refl;
  more = λ at f y. says_nothing refl refl;
  skip = λ at f n. says_nothing refl refl;
  acknowledge = λ f m p. says_nothing refl refl;
  stand = λ f m n. says_nothing refl refl;
  done = λ f y. says_nothing refl refl;
})

-- ---- a step

module _ (s : Collection) (ok : Bool) (d : List ℕ) (n : ℕ) where
  -- what is at fault in the data, as a header of the collection's page
  abbrev pub data_fault : Option Fault
  data_fault = (check_of s.plan.page s.plan.caps.da4s d).fault

  -- the step takes a header that is judged, the first or a later one, that came with its 512 bytes, and in which something is at fault
  pub record Bad : Type 0 where
    pub taken : refusal_of s ok (length d) n ≡ success
    pub judged : judged_by s.phase ≡ true
    pub came : ok ≡ true
    pub long : length d ≡ block
    pub bad : faultless data_fault ≡ false

  -- then it ends the collection with 7, and with that fault
  pub bad_ends : Bad → step_of s ok d n ≡ ends (ended_in s false) (BadHeader data_fault)
  unfolding seen_of
  bad_ends b =
      by_header s.phase b.judged (λ f. first_bad s ok d n b.taken f b.came b.bad) (λ f. later_bad s ok d n b.taken f b.came b.bad)

  module _ (r : refusal_of s ok (length d) n ≡ success) where
    t : Tells s ok (look_of s d) (step_of s ok d n)
    t = rw (taken_step s ok d n r) (tells s ok (look_of s d))

    -- with 7, what is seen is at fault, and the check finds it so
    at_fault_lem : answer_of (step_of s ok d n).next ≡ bad_header → (faultless data_fault ≡ false) × ((look_of s d).fault ≡ data_fault)
    unfolding look_of seen_of
    at_fault_lem q =
        look_bad s.phase s.plan d (state_valid s (not_refused s ok (length d) n r).state).plan (t.judged q) (t.first q) (t.later q)

    long_block : judged_by s.phase ≡ true → ok ≡ true → length d ≡ block
    unfolding expected_of
    long_block j k =
        (not_refused s ok (length d) n r).bytes_fit
        ∙ ap (λ (b : Bool). pick b (expected_of s) 0) k
        ∙ header_block s.phase s.plan s.attempt.last j

    taken_bad : answer_of (step_of s ok d n).next ≡ bad_header → Bad
    taken_bad q = record {
      taken = r;
      judged = t.judged q;
      came = t.came q;
      long = long_block (t.judged q) (t.came q);
      bad = (at_fault_lem q).0;
    }

    taken_carries : fault_said (step_of s ok d n).next ≡ pick (eqb (answer_of (step_of s ok d n).next) bad_header) data_fault None
    taken_carries =
        t.told
        ∙ same_or_not (answer_of (step_of s ok d n).next) bad_header
        (λ q. rw (eq-eqb _ bad_header q) (at_fault_lem q).1)
        (λ q. rw (ne_eqb _ bad_header q))

  module _ (r : refusal_of s ok (length d) n ≡ success → ⊥) where
    refused_answer : eqb (answer_of (step_of s ok d n).next) bad_header ≡ false
    unfolding refusal_of
    refused_answer =
        ap (λ (x : Stepped). eqb (answer_of x.next) bad_header) (refused_step s ok d n r)
        ∙ no_7 (ended_by s.phase) (valid_state s) (completion_fits s ok (length d) n)
      where
        no_7 : (over valid fits : Bool) → eqb (first_refusal over valid fits) bad_header ≡ false
        no_7 true valid fits = refl
        no_7 false false fits = refl
        no_7 false true false = refl
        no_7 false true true = refl

    refused_carries : fault_said (step_of s ok d n).next ≡ pick (eqb (answer_of (step_of s ok d n).next) bad_header) data_fault None
    refused_carries = ap (λ (x : Stepped). fault_said x.next) (refused_step s ok d n r) ∙ rw refused_answer

  -- 7 is answered for such a header alone
  pub step_bad : answer_of (step_of s ok d n).next ≡ bad_header → Bad
  step_bad q = same_or_not (refusal_of s ok (length d) n) success (λ r. taken_bad r q) (λ r. absurd (eqb-false _ bad_header (refused_answer r) q))

  -- A step's answer carries what is at fault in its data with 7, and nothing otherwise.
  pub step_carries : fault_said (step_of s ok d n).next ≡ pick (eqb (answer_of (step_of s ok d n).next) bad_header) data_fault None
  step_carries = same_or_not (refusal_of s ok (length d) n) success taken_carries refused_carries
