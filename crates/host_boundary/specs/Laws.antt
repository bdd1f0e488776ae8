-- What a caller across the boundary may rest on: a refusal changes nothing, a state that is written is intact and so can be lent again, and
-- setup and a plan refuse damaged capabilities.
-- Assumes nothing.
use Rattle.std.specs.Prelude.{ℕ, ◌<◌, ◌≡◌, refl, Bool, true, length, eqb}
use Rattle.std.proofs.Common.{sym, ap, ◌∙◌, arith, eq-eqb}
use mathlib.Core.List.{List}
use Rattle.std.proofs.lemmas.Bool.{lt-leb}
use Rattle.choices.specs.Choice.{pick_cases}
use Rattle.choices.specs.Tests.{holds, each, by_test, clash}
use Rattle.answers.specs.Answers.{success, bad_setup}
use Rattle.completions.specs.declared.Seen.{Seen}
use Rattle.completions.specs.Plan.{least_plan, answer_to, plan_of}
use Rattle.completions.specs.Planned.{planned_answer}
use Rattle.judgement.specs.declared.Move.{Move}
use Rattle.judgement.specs.declared.Move.TheVariants.{End, Open, More, Skip, Acknowledge}
use Rattle.plans.specs.Plans.{plan_tests, setup_answer}
use Rattle.collection.specs.declared.Collection.{Collection}
use Rattle.collection.specs.Told.{Stepped}
use Rattle.collection.specs.Collection.{refusal_of, look_of, move_of, step_of}
use Rattle.collection.specs.Steps.{makes, refused_copy, taken_step}
use Rattle.shared_layouts.specs.Layouts.{most_caps, caps_of}
use Rattle.state_layout.specs.Layout.{state_at, state_intact}
use Rattle.next_layout.specs.Layout.{refusal, kind_of}
use Rattle.state_layout.specs.Back.{state_intact_lem}
use Rattle.host_boundary.specs.Boundary.{setup_plan, step_at}

-- what a completion calls for is no refusal
act_kind : (s : Collection) (h : Seen) (m : Move) → kind_of (makes s h m).next ≡ refusal → ⊥
unfolding makes
act_kind s h (End x next) e = omega arith
act_kind s h (Open next) e = omega arith
act_kind s h (More at) e = omega arith
act_kind s h Skip e = omega arith
act_kind s h Acknowledge e = omega arith

module _ (s : List ℕ) (ok : Bool) (d copy : List ℕ) where
  pub refused_unread : kind_of (step_of (state_at s) ok d (length copy)).next ≡ refusal
      → refusal_of (state_at s) ok (length d) (length copy) ≡ success → ⊥
  refused_unread e q =
      act_kind (state_at s) (look_of (state_at s) d) (move_of (state_at s) ok (look_of (state_at s) d))
      (ap (λ (x : Stepped). kind_of x.next) (sym (taken_step (state_at s) ok d (length copy) q)) ∙ e)

  -- a refused step leaves the state's bytes and the copy as lent
  pub step_refusal : (step_at s ok d copy).kind ≡ refusal → ((step_at s ok d copy).state ≡ s) × ((step_at s ok d copy).copy ≡ copy)
  unfolding step_at
  step_refusal =
      by_test (state_intact s)
      (λ p. rw p (λ e. (rw (eq-eqb _ refusal e), refused_copy (state_at s) ok d copy (refused_unread e))))
      (λ p. rw p (λ e. (refl, refl)))

  -- an intact state stays intact
  pub step_intact : state_intact s ≡ true → state_intact (step_at s ok d copy).state ≡ true
  unfolding step_at
  step_intact p =
      let x = step_of (state_at s) ok d (length copy) in
      rw p (pick_cases (λ (b : List ℕ). state_intact b ≡ true) (eqb (kind_of x.next) refusal) (λ e. p) (λ e. state_intact_lem x.state))

-- ---- setup

-- setup refuses capabilities over 31 with 13
pub damaged_refused : (page create area caps chunk attempts room : ℕ) → most_caps < caps
    → setup_answer (setup_plan page create area caps chunk attempts room) ≡ bad_setup
unfolding setup_answer caps_of
damaged_refused page create area caps chunk attempts room h =
    let p = setup_plan page create area caps chunk attempts room in
    by_test (holds (plan_tests p))
    (λ t. clash {t = p.caps.telemetry} (each (plan_tests p) t 5) (rw (lt-leb caps most_caps h)))
    (λ f. rw f)

-- and so does a plan
pub plan_damaged : (page area caps chunk room : ℕ) (h : List ℕ) → most_caps < caps → (plan_of page area (caps_of caps) chunk room h).answer ≡ bad_setup
unfolding answer_to caps_of
plan_damaged page area caps chunk room h l =
    let p = least_plan page area (caps_of caps) chunk room in
    rw (planned_answer page area (caps_of caps) chunk room h)
    (by_test (holds (plan_tests p))
    (λ t. clash {t = p.caps.telemetry} (each (plan_tests p) t 5) (rw (lt-leb caps most_caps l)))
    (λ f. rw f))
