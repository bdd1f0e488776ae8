-- `completions::plan` meets its contract: what refuses first is the first of the order, and a plan has what the check found.
-- Assumes nothing.
use Rattle.std.specs.Prelude.{ℕ, ◌≡◌, refl, List, [], ◌∷◌, Bool, true, false, not, eqb, Some, None, Result, Ok, Err, IsErrAnd}
use Rattle.std.proofs.Common.{◌∙◌, arith}
use Rattle.std.proofs.lemmas.Bool.{eqb-false}
use Rattle.choices.specs.Choice.{first_that}
use Rattle.choices.specs.Tests.{holds}
use Rattle.answers.specs.declared.Refusal.{Refusal}
use Rattle.answers.specs.Answers.{success, no_area4, bad_header, no_room, nothing, bad_setup, out_of_reach, refusal_number}
use Rattle.answers.specs.Refused.{refused_is}
use Rattle.pages.specs.declared.Caps.{Caps}
use Rattle.header.specs.declared.Fields.{Fields}
use Rattle.header.specs.declared.Fault.{Fault}
use Rattle.header.specs.Header.{check_of, checked}
use Rattle.plans.specs.declared.Plan.{Plan}
use Rattle.plans.specs.Plans.{plan_tests, without_area4, setup_answer, in_reach, fits_room, area_answer}
use Rattle.completions.specs.declared.Planned.{Planned as Given}
use Rattle.completions.specs.declared.NoPlan.{NoPlan}
use Rattle.completions.specs.Plan.{least_plan, no_data, refused_plan, plan_of, why_number, why_fault, planned}
use Rattle.completions.specs.Planned.{plan_good, plan_refused}
use Rattle.completions.proofs.plan.Goals as goal

-- what a `?` hands on is the error itself
handed : (r : Result Given NoPlan) (why : NoPlan) → IsErrAnd r (λ e. e ≡ why) → planned r ≡ refused_plan (why_number why) (why_fault why)
handed (Ok x) why e = absurd e
handed (Err x) why e = rw e

-- neither setup nor the area answers 7
setup_silent : (p : Plan) → eqb (setup_answer p) bad_header ≡ false
unfolding setup_answer
setup_silent p =
    by (holds (plan_tests p)) (without_area4 p)
  where
    by : (a b : Bool) → eqb (first_that ((not a, bad_setup) ∷ (b, no_area4) ∷ []) success) bad_header ≡ false
    by true true = refl
    by true false = refl
    by false b = refl

area_silent : (p : Plan) (last : List ℕ) → eqb (area_answer p last) bad_header ≡ false
unfolding area_answer
area_silent p last =
    by (in_reach p last) (fits_room p last)
  where
    by : (a b : Bool) → eqb (first_that ((not a, out_of_reach) ∷ (not b, no_room) ∷ []) success) bad_header ≡ false
    by true true = refl
    by true false = refl
    by false b = refl

module _ (page area : ℕ) (caps : Caps) (chunk room : ℕ) (h : List ℕ) where
  abbrev p : Plan
  p = least_plan page area caps chunk room

  by_setup : (r : Refusal) → refusal_number r ≡ setup_answer p → refused_plan (refusal_number r) None ≡ plan_of page area caps chunk room h
  by_setup r e =
      plan_refused page area caps chunk room h refl e refl refl (rw (refused_is r)) (eqb-false _ success (refused_is r))
      (rw (e, setup_silent p)) refl

  module _ (taken : success ≡ setup_answer p) where
    by_fault : (x : Fault) → checked (Err x) ≡ check_of page caps.da4s h → refused_plan bad_header (Some x) ≡ plan_of page area caps chunk room h
    by_fault x e = plan_refused page area caps chunk room h e taken refl refl refl (λ z. omega arith) refl refl

    module _ (f : Fields) (good : checked (Ok f) ≡ check_of page caps.da4s h) where
      by_none : no_data page f.tcda ≡ true → refused_plan nothing None ≡ plan_of page area caps chunk room h
      by_none n = plan_refused page area caps chunk room h good taken refl refl (rw n) (λ z. omega arith) refl refl

      by_area : (r : Refusal) → no_data page f.tcda ≡ false → refusal_number r ≡ area_answer p f.last
          → refused_plan (refusal_number r) None ≡ plan_of page area caps chunk room h
      by_area r n e =
          plan_refused page area caps chunk room h good taken refl e (rw n) (eqb-false _ success (refused_is r)) (rw (e, area_silent p f.last)) refl

pub returns-in_err-setup_answer : goal.returns-in_err-setup_answer
returns-in_err-setup_answer c =
    let a = c.args in
    handed c.from_residual.result _ c.from_residual.ensures.1
    ∙ by_setup a.page a.area a.caps a.chunk a.room a.h.now c.in_err-setup_answer.field-0.0 c.in_err-setup_answer.ensures

pub returns-in_err-fields : goal.returns-in_err-fields
returns-in_err-fields c =
    let a = c.args in
    let bad : checked (Err c.in_err-fields.field-0.0) ≡ check_of a.page a.caps.da4s a.h.now = grind arith in
    handed c.from_residual-in_err-fields.result _ c.from_residual-in_err-fields.ensures.1
    ∙ by_fault a.page a.area a.caps a.chunk a.room a.h.now c.in_ok-setup_answer.ensures c.in_err-fields.field-0.0 bad

pub returns-then-page-fields : goal.returns-then-page-fields
returns-then-page-fields c =
    let a = c.args in
    let good : checked (Ok c.in_ok-fields.fields) ≡ check_of a.page a.caps.da4s a.h.now = grind arith in
    by_none a.page a.area a.caps a.chunk a.room a.h.now c.in_ok-setup_answer.ensures c.in_ok-fields.fields good c.if-page-fields.true

pub returns-in_err-area_answer : goal.returns-in_err-area_answer
returns-in_err-area_answer c =
    let a = c.args in
    let good : checked (Ok c.in_ok-fields.fields) ≡ check_of a.page a.caps.da4s a.h.now = grind arith in
    handed c.from_residual-in_err-area_answer.result _ c.from_residual-in_err-area_answer.ensures.1
    ∙ by_area a.page a.area a.caps a.chunk a.room a.h.now c.in_ok-setup_answer.ensures c.in_ok-fields.fields good
    c.in_err-area_answer.field-0.0 c.if-page-fields.false c.in_err-area_answer.ensures

pub returns : goal.returns
returns c =
    let a = c.args in
    let good : checked (Ok c.in_ok-fields.fields) ≡ check_of a.page a.caps.da4s a.h.now = grind arith in
    plan_good a.page a.area a.caps a.chunk a.room a.h.now good c.in_ok-setup_answer.ensures refl c.in_ok-area_answer.ensures
    (rw c.if-page-fields.false) refl c.chunk_len.ensures c.area_last.ensures c.chunks_of.ensures
