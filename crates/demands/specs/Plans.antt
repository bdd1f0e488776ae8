-- Document 02, Q-4 and Q-10, said directly: the plan's answer is the first of its order, and a collection answers its first header just as the plan does and goes on from what the plan gives.
-- Assumes nothing.
use Rattle.std.specs.Prelude.{ℕ, ◌≡◌, List, [], ◌∷◌, not, length, None}
use Rattle.std.proofs.Math.Path.{refl, ap}
use Rattle.std.proofs.Common.{sym, ◌∙◌, arith}
use Rattle.std.proofs.Math.Bool.{true, false}
use Rattle.std.proofs.Math.Dec.{eqb}
use Rattle.choices.specs.Choice.{First, first_that_lem}
use Rattle.choices.specs.Tests.{holds}
use Rattle.answers.specs.Answers.{success, no_area4, bad_header, no_room, nothing, bad_setup, out_of_reach}
use Rattle.pages.specs.declared.Caps.{Caps}
use Rattle.header.specs.Header.{faultless, check_of}
use Rattle.header.specs.Faults.{faultless_none}
use Rattle.phases.specs.declared.Phase.TheVariants.{First as FirstHeader}
use Rattle.plans.specs.Plans.{plan_tests, without_area4, setup_answer, fits_room, in_reach}
use Rattle.plans.specs.Limits.{short_is}
use Rattle.completions.specs.declared.Seen.{Seen}
use Rattle.completions.specs.Plan.{Planned, least_plan, no_data, answer_to, plan_of, plan_by}
use Rattle.completions.specs.Planned.{planned_answer, planned_good, planned_refused}
use Rattle.completions.specs.Completions.{planned_seen, seen_of}
use Rattle.completions.specs.Looked.{by_plan, success_opens}
use Rattle.collection.specs.declared.Collection.{Collection}
use Rattle.collection.specs.Collection.{refusal_of, step_of, answer_of, fault_said}
use Rattle.collection.specs.Laws.{state_valid, not_refused}
use Rattle.collection.specs.Steps.{first_bad, first_none, first_short, first_opens}

-- ---- the order

-- A plan's answer is the first of its order: its own test holds and none before it does.
pub plan_first : (page area : ℕ) (caps : Caps) (chunk room : ℕ) (h : List ℕ)
    → First
    ((not (holds (plan_tests (least_plan page area caps chunk room))), bad_setup)
    ∷ (without_area4 (least_plan page area caps chunk room), no_area4)
    ∷ (not (faultless (check_of page caps.da4s h).fault), bad_header)
    ∷ (no_data page (check_of page caps.da4s h).fields.tcda, nothing)
    ∷ (not (in_reach (least_plan page area caps chunk room) (check_of page caps.da4s h).fields.last), out_of_reach)
    ∷ (not (fits_room (least_plan page area caps chunk room) (check_of page caps.da4s h).fields.last), no_room)
    ∷ [])
    success
    (plan_of page area caps chunk room h).answer
unfolding answer_to
plan_first page area caps chunk room h = rw (planned_answer page area caps chunk room h) (first_that_lem _ success)

-- ---- a collection's first header

module _ (s : Collection) (d : List ℕ) (n : ℕ) (r : refusal_of s true (length d) n ≡ success) (f : s.phase ≡ FirstHeader) where
  plan_is : setup_answer s.plan ≡ success
  plan_is = (state_valid s (not_refused s true (length d) n r).state).plan

  -- The step at a first header answers what the plan from it answers, and tells the same fault.
  pub step_plans : (answer_of (step_of s true d n).next ≡ (plan_by s.plan d).answer) × (fault_said (step_of s true d n).next ≡ (plan_by s.plan d).fault)
  unfolding planned_seen seen_of
  step_plans =
      by_plan s.plan d plan_is
      (λ g a t. (rw (first_bad s true d n r f refl g, a), rw (first_bad s true d n r f refl g, t)))
      (λ g w a. (rw (first_none s true d n r f refl g w, a), rw (first_none s true d n r f refl g w, silent nothing a (omega arith) refl)))
      (λ g w l a.
      let e = first_short s true d n r f refl g w l in
      short_is s.plan (seen_of s.plan d).last l
      (λ o b. (rw (e, b, a ∙ b), rw (e, b, silent out_of_reach (a ∙ b) (omega arith) refl)))
      (λ o t b. (rw (e, b, a ∙ b), rw (e, b, silent no_room (a ∙ b) (omega arith) refl))))
      (λ x.
      let o = x.opens in
      let e : step_of s true d n ≡ _ = first_opens s true d n r f refl o.good o.some o.fits in
      (rw e (sym (ap (λ (h : Seen). h.answer) x.seen)), rw e (sym (ap (λ (h : Seen). h.fault) x.seen ∙ faultless_none (check_of s.plan.page s.plan.caps.da4s d).fault o.good))))
    where
      -- a refusal other than 7 tells no fault
      silent : (m : ℕ) → (plan_by s.plan d).answer ≡ m → (m ≡ success → ⊥) → eqb m bad_header ≡ false → (plan_by s.plan d).fault ≡ None
      silent m e z q =
          ap (λ (x : Planned). x.fault) (planned_refused s.plan.page s.plan.area s.plan.caps s.plan.chunk s.plan.room d m e z) ∙ rw q

  -- And where that is 0, the attempt that it opens has the plan's last blocks.
  pub step_planned : (plan_by s.plan d).answer ≡ success → (step_of s true d n).state.attempt.last ≡ (plan_by s.plan d).fields.last
  unfolding seen_of
  step_planned e =
      let o = success_opens s.plan d plan_is e in
      rw (first_opens s true d n r f refl o.good o.some o.fits)
      (sym (ap (λ (x : Planned). x.fields.last) (planned_good s.plan.page s.plan.area s.plan.caps s.plan.chunk s.plan.room d e)))
