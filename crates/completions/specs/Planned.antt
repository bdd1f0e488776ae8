-- What a plan comes to: the number of chunks, and what each answer says of the header.
-- Assumes nothing.
use Rattle.std.specs.Prelude.{ℕ, ◌+◌, ◌-◌, ◌/◌, ◌≡◌, refl, List, [], ◌∷◌, Bool, true, false, Option, not, eqb}
use Rattle.std.proofs.Common.{sym, ◌∙◌, arith}
use Rattle.std.proofs.Math.Path.{ap}
use Rattle.std.proofs.Math.Nat.{div-eq_of_lt, div-zero, add-div_right}
use borrow.Author.Tests.{ne_eqb, not-true, not-false}
use Rattle.choices.specs.Choice.{pick_cases, first_that}
use Rattle.choices.specs.Tests.{holds}
use Rattle.answers.specs.Answers.{success, no_area4, bad_header, no_room, nothing, bad_setup, out_of_reach}
use Rattle.pages.specs.declared.Caps.{Caps}
use Rattle.header.specs.declared.Fault.{Fault}
use Rattle.header.specs.Header.{faultless, Checked, check_of}
use Rattle.plans.specs.declared.Plan.{Plan}
use Rattle.plans.specs.Plans.{plan_tests, without_area4, setup_answer, fits_room, in_reach, area_answer, area_last, chunk_of, chunks_from, chunks_of}
use Rattle.completions.specs.Plan.{Planned, plan_order, least_plan, no_data, answer_to, fault_told, refused_plan, planned_by, plan_of, plan_answer}

-- ---- the number of chunks

pub chunks_by_none : (c b : ℕ) → c ≡ 0 → 0 ≡ chunks_from c 1 b
chunks_by_none c b e = rw e (sym (div-zero (b + 0 - 1)))

pub chunks_of_none : (c b : ℕ) → (c ≡ 0 → ⊥) → b ≡ 0 → 0 ≡ chunks_from c 1 b
chunks_of_none c b n e = rw e (sym (div-eq_of_lt {n = 0 + c - 1} {m = c} (omega arith)))

pub chunks_of_some : (c b : ℕ) → (c ≡ 0 → ⊥) → (b ≡ 0 → ⊥) → (b - 1) / c + 1 ≡ chunks_from c 1 b
chunks_of_some c b n m =
    let e : b + c - 1 ≡ b - 1 + c = omega arith in
    sym (ap (λ (x : ℕ). x / c) e ∙ add-div_right (b - 1) {k = c} (omega arith))

-- ---- the order

-- what holds of each answer of the order holds of a plan's
pub by_order : (P : ℕ → Type 0) (limits lacks bad none far large : Bool) → P bad_setup → P no_area4 → (bad ≡ true → P bad_header) → P nothing → P out_of_reach
    → P no_room → (bad ≡ false → P success) → P (first_that (plan_order limits lacks bad none far large) success)
by_order P false lacks bad none far large p13 p6 p7 p11 p19 p8 p0 = p13
by_order P true true bad none far large p13 p6 p7 p11 p19 p8 p0 = p6
by_order P true false true none far large p13 p6 p7 p11 p19 p8 p0 = p7 refl
by_order P true false false true far large p13 p6 p7 p11 p19 p8 p0 = p11
by_order P true false false false true large p13 p6 p7 p11 p19 p8 p0 = p19
by_order P true false false false false true p13 p6 p7 p11 p19 p8 p0 = p8
by_order P true false false false false false p13 p6 p7 p11 p19 p8 p0 = p0 refl

-- the same by setup's number and the area's
number_is : (limits lacks bad none far large : Bool)
    → plan_answer (first_that ((not limits, bad_setup) ∷ (lacks, no_area4) ∷ []) success) bad none (first_that ((far, out_of_reach) ∷ (large, no_room) ∷ []) success)
    ≡ first_that (plan_order limits lacks bad none far large) success
number_is false lacks bad none far large = refl
number_is true true bad none far large = refl
number_is true false bad none far large = refl

-- ---- what the code's calls come to

module _ (page area : ℕ) (caps : Caps) (chunk room : ℕ) (h : List ℕ) {x : Checked} {setup area-says answer : ℕ} {good : Bool}
    (ex : x ≡ check_of page caps.da4s h)
    (es : setup ≡ setup_answer (least_plan page area caps chunk room))
    (eg : good ≡ faultless x.fault)
    (ef : area-says ≡ area_answer (least_plan page area caps chunk room) x.fields.last)
    (ea : answer ≡ plan_answer setup (not good) (no_data page x.fields.tcda) area-says) where
  answer_is : answer ≡ answer_to (least_plan page area caps chunk room) (check_of page caps.da4s h)
  unfolding answer_to setup_answer area_answer
  answer_is =
      let p = least_plan page area caps chunk room in
      let y = check_of page caps.da4s h in
      ea
      ∙ rw (es, eg, ef, ex)
      (number_is (holds (plan_tests p)) (without_area4 p) (not (faultless y.fault)) (no_data page y.fields.tcda) (not (in_reach p y.fields.last))
      (not (fits_room p y.fields.last)))

  pub plan_good : {c b n : ℕ} → answer ≡ success → c ≡ chunk_of (least_plan page area caps chunk room)
      → b ≡ area_last (least_plan page area caps chunk room) x.fields.last → n ≡ chunks_from c 1 b
      → record { answer = answer; fault = x.fault; fields = x.fields; chunks = n } ≡ plan_of page area caps chunk room h
  unfolding plan_of planned_by
  plan_good ok ec eb en = rw (← answer_is, ok, en, ec, eb, ex)

  pub plan_refused : {told : Option Fault} {r : Planned} → (answer ≡ success → ⊥) → told ≡ fault_told answer x.fault → r ≡ refused_plan answer told
      → r ≡ plan_of page area caps chunk room h
  unfolding plan_of planned_by
  plan_refused z et er = er ∙ rw (← answer_is, ne_eqb answer success z, et, ex)

-- ---- what is given with an answer

module _ (page area : ℕ) (caps : Caps) (chunk room : ℕ) (h : List ℕ) where
  abbrev p : Plan
  p = least_plan page area caps chunk room

  abbrev x : Checked
  x = check_of page caps.da4s h

  pub planned_answer : (plan_of page area caps chunk room h).answer ≡ answer_to p x
  unfolding plan_of planned_by
  planned_answer = pick_cases (λ (y : Planned). y.answer ≡ answer_to p x) (eqb (answer_to p x) success) (λ e. refl) (λ e. refl)

  -- with 0 what the check found, and the chunks that bring the wanted area
  pub planned_good : (plan_of page area caps chunk room h).answer ≡ success
      → plan_of page area caps chunk room h ≡ record { answer = success; fault = x.fault; fields = x.fields; chunks = chunks_of p x.fields.last }
  unfolding plan_of planned_by
  planned_good e = ap (planned_by p x) (sym planned_answer ∙ e)

  -- with a refusal nothing but what is at fault, with 7
  pub planned_refused : (n : ℕ) → (plan_of page area caps chunk room h).answer ≡ n → (n ≡ success → ⊥)
      → plan_of page area caps chunk room h ≡ refused_plan n (fault_told n x.fault)
  unfolding plan_of planned_by
  planned_refused n e z = ap (planned_by p x) (sym planned_answer ∙ e) ∙ rw (ne_eqb n success z)

  -- what holds of each answer holds of a plan's
  pub by_answer : (P : ℕ → Type 0) → P bad_setup → P no_area4 → (faultless x.fault ≡ false → P bad_header) → P nothing → P out_of_reach → P no_room
      → (faultless x.fault ≡ true → P success) → P (plan_of page area caps chunk room h).answer
  unfolding answer_to
  by_answer P p13 p6 p7 p11 p19 p8 p0 =
      rw planned_answer
      (by_order P (holds (plan_tests p)) (without_area4 p) (not (faultless x.fault)) (no_data page x.fields.tcda) (not (in_reach p x.fields.last))
      (not (fits_room p x.fields.last)) p13 p6 (λ e. p7 (not-true _ e)) p11 p19 p8 (λ e. p0 (not-false _ e)))

  -- 7 is for a bad header alone, and 0 for none
  pub planned_bad_only : (plan_of page area caps chunk room h).answer ≡ bad_header → faultless x.fault ≡ false
  planned_bad_only =
      by_answer (λ (n : ℕ). n ≡ bad_header → faultless x.fault ≡ false)
      (λ e. absurd (omega arith)) (λ e. absurd (omega arith)) (λ g e. g) (λ e. absurd (omega arith)) (λ e. absurd (omega arith)) (λ e. absurd (omega arith))
      (λ g e. absurd (omega arith))

  pub planned_good_only : (plan_of page area caps chunk room h).answer ≡ success → faultless x.fault ≡ true
  planned_good_only =
      by_answer (λ (n : ℕ). n ≡ success → faultless x.fault ≡ true)
      (λ e. absurd (omega arith)) (λ e. absurd (omega arith)) (λ g e. absurd (omega arith)) (λ e. absurd (omega arith)) (λ e. absurd (omega arith))
      (λ e. absurd (omega arith)) (λ g e. g)
