-- Document 02, Q-2 and Q-4, across the C boundary: `bad_field` of struct bumbazeel_next is the number of what is at fault in the header just read with ending 7, and 0 with any other
-- answer; struct bumbazeel_planned has the field at fault and its byte with answer 7, and zeros beside them, zeros alone with any other refusal, and with 0 no field at fault;
-- `bumbazeel_field_byte` tells the byte of either; and a step at a first header answers as the plan from it does.
-- Assumes nothing.
use Rattle.std.specs.Prelude.{ℕ, ◌≤◌, ◌≡◌, List, ◌∷◌, ◌++◌, Bool, not, length, eqb, Option, Some, None}
use Rattle.std.proofs.Math.Path.{refl, sym, ap, subst}
use Rattle.std.proofs.Common.{◌∙◌, arith, eq-eqb, ne_eqb}
use Rattle.std.proofs.Math.Bool.{true, false}
use Rattle.std.proofs.Math.ListN.{get_or}
use Rattle.choices.specs.Choice.{pick}
use Rattle.choices.specs.Tests.{by_test, clash, same_or_not}
use Rattle.copies.specs.Parts.{zeros}
use Rattle.littleendian.specs.Numbers.{bytes_of, value_at}
use Rattle.answers.specs.Answers.{success, bad_header, bad_setup}
use Rattle.header.specs.declared.Fault.{Fault}
use Rattle.header.specs.declared.Fault.TheVariants.{Length, Identifier, Area2, Area3, Area4, Scope, Available, Empty}
use Rattle.header.specs.Header.{faultless, byte_of, no_fields, check_of}
use Rattle.plans.specs.declared.Plan.{Plan}
use Rattle.phases.specs.declared.Phase.TheVariants.{First}
use Rattle.completions.specs.Plan.{Planned, refused_plan, plan_of, plan_by}
use Rattle.completions.specs.Planned.{planned_good, planned_refused, planned_bad_only, planned_good_only}
use Rattle.collection.specs.Told.{Next}
use Rattle.collection.specs.declared.Next.TheVariants.{Refuse}
use Rattle.collection.specs.Told.{Stepped}
use Rattle.collection.specs.Collection.{refusal_of, setup_of, step_of, copy_after, answer_of, fault_said}
use Rattle.demands.specs.Fields.{not_length}
use Rattle.demands.specs.Plans.{step_plans}
use Rattle.demands.specs.Faults.{setup_carries, Bad, bad_ends, step_bad, step_carries}
use Rattle.shared_layouts.specs.Layouts.{caps_of, fault_number, fault_by}
use Rattle.shared_layouts.specs.Faults.{no_field, fault_back}
use Rattle.planned_layout.specs.Layout.{planned_bytes}
use Rattle.planned_layout.specs.Back.{told_field, told_byte}
use Rattle.state_layout.specs.Layout.{state_bytes, state_at, state_intact}
use Rattle.next_layout.specs.Layout.{ending, refusal, kind_of, next_parts, next_bytes}
use Rattle.host_boundary.specs.Boundary.{StepAnswer, step_answer, state_after, step_answer_of, step_at}
use Rattle.c_calls.specs.Calls.{kind_in, answer_in, field_in}
use Rattle.c_calls.specs.Next.{answer_back, field_back}

-- ---- setup and step

-- no setup tells a field
pub c_setup_carries : (p : Plan) → field_in (next_bytes (setup_of p).next) ≡ 0
c_setup_carries p = field_back (setup_of p).next ∙ ap fault_number (setup_carries p)

-- a fault that is not the length has a number from 2 to 8
number_range : (x : Option Fault) → faultless x ≡ false → (x ≡ Some Length → ⊥) → (2 ≤ fault_number x) × (fault_number x ≤ 8)
number_range None e n = clash {t = true} refl e
number_range (Some Length) e n = absurd (n refl)
number_range (Some Identifier) e n = (omega arith, omega arith)
number_range (Some Area2) e n = (omega arith, omega arith)
number_range (Some Area3) e n = (omega arith, omega arith)
number_range (Some Area4) e n = (omega arith, omega arith)
number_range (Some Scope) e n = (omega arith, omega arith)
number_range (Some Available) e n = (omega arith, omega arith)
number_range (Some Empty) e n = (omega arith, omega arith)

-- of any bytes of a state, any data and any copy
module _ (s : List ℕ) (ok : Bool) (d copy : List ℕ) where
  -- what is at fault in the data, as a header of the page that the state's bytes speak of, under the DA4S of their capabilities
  abbrev pub lent_fault : Option Fault
  lent_fault = (check_of (get_or s 1 0) (caps_of (get_or s 4 0)).da4s d).fault

  -- struct bumbazeel_next and struct bumbazeel_state as the step leaves them
  abbrev pub follows_in : List ℕ
  follows_in = (step_at s ok d copy).follows

  abbrev pub left_in : List ℕ
  left_in = (step_at s ok d copy).state

  -- what is said of `bad_field` with `answer`
  abbrev Carries : List ℕ → Type 0
  Carries next = field_in next ≡ pick (eqb (answer_in next) bad_header) (fault_number lent_fault) 0

  abbrev n : Next
  n = (step_of (state_at s) ok d (length copy)).next

  carried : Carries (next_bytes n)
  unfolding state_at
  carried =
      field_back n
      ∙ ap fault_number (step_carries (state_at s) ok d (length copy))
      ∙ number (eqb (answer_of n) bad_header)
      ∙ ap (λ (a : ℕ). pick (eqb a bad_header) (fault_number lent_fault) 0) (sym (answer_back n))
    where
      number : (t : Bool) → fault_number (pick t lent_fault None) ≡ pick t (fault_number lent_fault) 0
      number true = refl
      number false = refl

  step_is : (t : Bool) → state_intact s ≡ t → step_at s ok d copy
      ≡ pick t (step_answer_of s (step_of (state_at s) ok d (length copy)) (copy_after (state_at s) ok d copy)) (step_answer refusal s copy (next_bytes (Refuse bad_setup)))
  unfolding step_at
  step_is t e = rw e

  -- what follows, where the bytes are intact and where they are not
  intact_follows : state_intact s ≡ true → follows_in ≡ next_bytes n
  intact_follows e = ap (λ (x : StepAnswer). x.follows) (step_is true e)

  damaged_follows : state_intact s ≡ false → follows_in ≡ next_bytes (Refuse bad_setup)
  damaged_follows e = ap (λ (x : StepAnswer). x.follows) (step_is false e)

  damaged : Carries (next_bytes (Refuse bad_setup))
  unfolding next_bytes next_parts
  damaged = refl

  -- A step tells the field at fault in its data with answer 7, and none with any other.
  pub c_step_carries : field_in follows_in ≡ pick (eqb (answer_in follows_in) bad_header) (fault_number lent_fault) 0
  c_step_carries =
      by_test (state_intact s)
      (λ e. subst (λ (next : List ℕ). Carries next) (sym (intact_follows e)) carried)
      (λ e. subst (λ (next : List ℕ). Carries next) (sym (damaged_follows e)) damaged)

  -- At a first header that the step takes, `answer` and `bad_field` are those of the plan from it, for what the state's bytes say.
  pub c_step_plans : state_intact s ≡ true → ok ≡ true → refusal_of (state_at s) true (length d) (length copy) ≡ success → (state_at s).phase ≡ First
      → (answer_in follows_in ≡ (plan_by (state_at s).plan d).answer) × (field_in follows_in ≡ fault_number (plan_by (state_at s).plan d).fault)
  c_step_plans e k r f =
      let x = step_plans (state_at s) d (length copy) r f in
      let t = ap (λ (b : Bool). (step_of (state_at s) b d (length copy)).next) k in
      (ap answer_in (intact_follows e) ∙ answer_back n ∙ ap answer_of t ∙ x.0, ap field_in (intact_follows e) ∙ field_back n ∙ ap (λ (y : Next). fault_number (fault_said y)) t ∙ ap fault_number x.1)

  -- ---- with answer 7

  module _ (q : answer_in follows_in ≡ bad_header) where
    intact : state_intact s ≡ true
    unfolding next_bytes next_parts
    intact =
        by_test (state_intact s) (λ e. e)
        (λ e. let z : bad_setup ≡ bad_header = sym (ap answer_in (damaged_follows e)) ∙ q in absurd (omega (arith, z)))

    -- a header was read that is judged, of 512 bytes and at fault
    pub c_step_bad : Bad (state_at s) ok d (length copy)
    c_step_bad = step_bad (state_at s) ok d (length copy) (sym (answer_back n) ∙ ap answer_in (sym (intact_follows intact)) ∙ q)

    -- the collection has ended
    pub c_step_ends : kind_in follows_in ≡ ending
    unfolding next_bytes next_parts
    c_step_ends = ap kind_in (intact_follows intact ∙ ap (λ (x : Stepped). next_bytes x.next) (bad_ends (state_at s) ok d (length copy) c_step_bad))

    -- the field is from 2 to 8: something is at fault, and not the length
    pub c_step_range : (2 ≤ field_in follows_in) × (field_in follows_in ≤ 8)
    unfolding state_at
    c_step_range =
        let b = c_step_bad in
        subst (λ (k : ℕ). (2 ≤ k) × (k ≤ 8)) (sym (c_step_carries ∙ rw q))
        (number_range lent_fault b.bad (not_length (get_or s 1 0) (caps_of (get_or s 4 0)).da4s d b.long))

    page_kept : get_or left_in 1 0 ≡ get_or s 1 0
    unfolding state_at state_bytes
    page_kept =
        ap (λ (y : StepAnswer). get_or y.state 1 0) (step_is true intact)
        ∙ ap (λ (y : Stepped). get_or (state_after s (kind_of y.next) y.state) 1 0) (bad_ends (state_at s) ok d (length copy) c_step_bad)

    -- and `bumbazeel_field_byte` of it and of the page in the state that is left is the byte where that field starts
    pub c_step_byte : byte_of (get_or left_in 1 0) (fault_by (field_in follows_in)) ≡ byte_of (get_or s 1 0) lent_fault
    c_step_byte =
        ap (λ (page : ℕ). byte_of page (fault_by (field_in follows_in))) page_kept
        ∙ ap (λ (k : ℕ). byte_of (get_or s 1 0) (fault_by k)) (c_step_carries ∙ rw q)
        ∙ ap (byte_of (get_or s 1 0)) (fault_back lent_fault)

  -- every such header of an intact state that the step takes gets 7
  pub c_bad_ends : state_intact s ≡ true → Bad (state_at s) ok d (length copy) → answer_in follows_in ≡ bad_header
  unfolding next_bytes next_parts
  c_bad_ends e b = ap answer_in (intact_follows e ∙ ap (λ (x : Stepped). next_bytes x.next) (bad_ends (state_at s) ok d (length copy) b))

-- ---- a plan

module _ (page area caps chunk room : ℕ) (h : List ℕ) where
  -- what is planned, and struct bumbazeel_planned as the plan leaves it
  abbrev x : Planned
  x = plan_of page area (caps_of caps) chunk room h

  abbrev pub planned_in : List ℕ
  planned_in = planned_bytes page x

  -- `bad_byte` is what `bumbazeel_field_byte` answers of `bad_field`
  pub c_plan_byte : value_at 2 6 planned_in ≡ byte_of page (fault_by (get_or planned_in 5 0))
  c_plan_byte =
      told_byte page x
      ∙ ap (byte_of page) (sym (fault_back x.fault))
      ∙ ap (λ (k : ℕ). byte_of page (fault_by k)) (sym (told_field page x))

  -- the field at fault, of the check for the capabilities' DA4S
  abbrev pub found_fault : Option Fault
  found_fault = (check_of page (caps_of caps).da4s h).fault

  -- with 7 all else is zeros
  pub c_plan_bad : x.answer ≡ bad_header → planned_in ≡ zeros 5 ++ (fault_number found_fault ∷ bytes_of 2 (byte_of page found_fault)) ++ zeros 152
  unfolding planned_bytes no_fields
  c_plan_bad e = ap (planned_bytes page) (planned_refused page area (caps_of caps) chunk room h bad_header e (λ q. omega arith))

  -- with any other refusal everything is
  pub c_plan_refused : (n : ℕ) → x.answer ≡ n → (n ≡ success → ⊥) → (n ≡ bad_header → ⊥) → planned_in ≡ zeros 160
  unfolding planned_bytes no_fields
  c_plan_refused n e z q =
      let t : x ≡ refused_plan n None = planned_refused page area (caps_of caps) chunk room h n e z ∙ rw (ne_eqb n bad_header q) in
      ap (planned_bytes page) t

  -- so `bad_field` is 0 but with 7
  pub c_plan_carries : eqb (get_or planned_in 5 0) 0 ≡ not (eqb x.answer bad_header)
  c_plan_carries =
      ap (λ (k : ℕ). eqb k 0) (told_field page x)
      ∙ no_field x.fault
      ∙ same_or_not x.answer bad_header
      (λ e. ap (λ (y : Planned). faultless y.fault) (planned_refused page area (caps_of caps) chunk room h bad_header e (λ q. omega arith))
      ∙ planned_bad_only page area (caps_of caps) chunk room h e
      ∙ rw (eq-eqb _ bad_header e))
      (λ n. same_or_not x.answer success
      (λ e. ap (λ (y : Planned). faultless y.fault) (planned_good page area (caps_of caps) chunk room h e)
      ∙ planned_good_only page area (caps_of caps) chunk room h e
      ∙ rw (ne_eqb _ bad_header n))
      (λ z. ap (λ (y : Planned). faultless y.fault) (planned_refused page area (caps_of caps) chunk room h x.answer refl z) ∙ rw (ne_eqb _ bad_header n)))
