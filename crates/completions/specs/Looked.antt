-- What is looked at in the data of a header that is judged: of a closing one what the check finds, and of a first one, where it opens an attempt, the same. p
-- is a plan that setup takes.
-- Assumes nothing.
use Rattle.std.specs.Prelude.{ℕ, ◌≤◌, ◌≡◌, List, true, false, eqb}
use Rattle.std.proofs.Common.{sym, ◌∙◌, arith}
use Rattle.std.proofs.Math.Path.{ap}
use borrow.Author.Tests.{eqb-true, eqb-false}
use Rattle.choices.specs.Choice.{pick_cases}
use Rattle.choices.specs.Tests.{holds, each, by_test}
use Rattle.answers.specs.Answers.{success, bad_header, no_room, nothing, out_of_reach}
use Rattle.header.specs.Header.{faultless, Checked, check_of}
use Rattle.plans.specs.declared.Plan.{Plan}
use Rattle.phases.specs.declared.Phase.{Phase}
use Rattle.phases.specs.declared.Phase.TheVariants.{First}
use Rattle.phases.specs.Phases.{judged_by, closing_by, closing_is, by_header}
use Rattle.plans.specs.Plans.{plan_tests, setup_answer, in_reach, fits_room, area_answer, fits, chunks_of}
use Rattle.plans.specs.Limits.{plan_taken, short_is}
use Rattle.completions.specs.declared.Seen.{Seen}
use Rattle.completions.specs.Plan.{Planned, least_plan, answer_to, planned_by, plan_of, plan_by}
use Rattle.completions.specs.Planned.{planned_answer}
use Rattle.completions.specs.Completions.{planned_seen, seen_of, look_by, shows_none}

-- where a header closes an attempt, the data is looked at as the check finds it
pub look_closing : (f : Phase) (p : Plan) (d : List ℕ) → closing_by f ≡ true → look_by f p d ≡ seen_of p d
unfolding look_by
look_closing f p d e = ap (λ (g : Phase). look_by g p d) (closing_is f e).is

-- the least that setup takes of a plan: one attempt, and no create
abbrev least : Plan → Plan
least p = least_plan p.page p.area p.caps p.chunk p.room

-- setup takes that where it takes the plan
least_taken : (p : Plan) → setup_answer p ≡ success → holds (plan_tests (least p)) ≡ true
unfolding holds
least_taken p e =
    let t = (plan_taken p e).0 in
    rw (each (plan_tests p) t 0, each (plan_tests p) t 1, each (plan_tests p) t 2, each (plan_tests p) t 4, each (plan_tests p) t 5)

-- ---- a first header, by what the check finds in it

module _ (p : Plan) (d : List ℕ) (taken : setup_answer p ≡ success) where
  abbrev found : Checked
  found = check_of p.page p.caps.da4s d

  answers : {n : ℕ} → answer_to (least p) found ≡ n
      → plan_by p d ≡ planned_by (least p) found n
  unfolding plan_of
  answers e = ap (planned_by (least p) found) e

  pub planned_bad : faultless (seen_of p d).fault ≡ false → ((planned_seen p d).answer ≡ bad_header) × ((planned_seen p d).fault ≡ (seen_of p d).fault)
  unfolding planned_seen seen_of planned_by answer_to
  planned_bad g =
      let e = answers {n = bad_header} (rw (least_taken p taken, (plan_taken p taken).1, g)) in
      (ap (λ (x : Planned). x.answer) e, ap (λ (x : Planned). x.fault) e)

  module _ (g : faultless (seen_of p d).fault ≡ true) where
    pub planned_none : shows_none p (seen_of p d) ≡ true → (planned_seen p d).answer ≡ nothing
    unfolding planned_seen seen_of planned_by answer_to
    planned_none n = ap (λ (x : Planned). x.answer) (answers {n = nothing} (rw (least_taken p taken, (plan_taken p taken).1, g, n)))

    module _ (n : shows_none p (seen_of p d) ≡ false) where
      -- the plan answers as the area does
      by_area : answer_to (least p) found ≡ area_answer p (seen_of p d).last
      unfolding seen_of answer_to area_answer in_reach fits_room
      by_area = rw (least_taken p taken, (plan_taken p taken).1, g, n)

      pub planned_by_area : (planned_seen p d).answer ≡ area_answer p (seen_of p d).last
      unfolding planned_seen
      planned_by_area = planned_answer p.page p.area p.caps p.chunk p.room d ∙ by_area

      pub planned_opens : fits p (seen_of p d).last ≡ true → planned_seen p d ≡ seen_of p d
      unfolding planned_seen seen_of planned_by
      planned_opens l = rw (answers {n = success} (by_area ∙ eqb-true _ success l))

-- what is seen of a first header speaks against no attempt: its plan answers none of 7, 11, 19, 8
pub record TakenByPlan (h : Seen) : Type 0 where
  pub good : eqb h.answer bad_header ≡ false
  pub some : eqb h.answer nothing ≡ false
  pub near : eqb h.answer out_of_reach ≡ false
  pub room : eqb h.answer no_room ≡ false

-- what is seen of a header opens an attempt: it is good, has data, and its area can be collected
pub record Opens (p : Plan) (h : Seen) : Type 0 where
  pub good : faultless h.fault ≡ true
  pub some : shows_none p h ≡ false
  pub fits : fits p h.last ≡ true

-- a first header that its plan takes is seen as the check finds it, and that opens an attempt
pub record SeenAsChecked (p : Plan) (d : List ℕ) : Type 0 where
  pub seen : planned_seen p d ≡ seen_of p d
  pub opens : Opens p (seen_of p d)

-- a first header by all that it can be
pub by_plan : {A : Type 0} (p : Plan) (d : List ℕ) → setup_answer p ≡ success
    → (faultless (seen_of p d).fault ≡ false → (planned_seen p d).answer ≡ bad_header → (planned_seen p d).fault ≡ (seen_of p d).fault → A)
    → (faultless (seen_of p d).fault ≡ true → shows_none p (seen_of p d) ≡ true → (planned_seen p d).answer ≡ nothing → A)
    → (faultless (seen_of p d).fault ≡ true → shows_none p (seen_of p d) ≡ false → fits p (seen_of p d).last ≡ false
    → (planned_seen p d).answer ≡ area_answer p (seen_of p d).last → A)
    → (SeenAsChecked p d → A) → A
by_plan p d taken bad none short opens =
    by_test (faultless (seen_of p d).fault)
    (λ g. by_test (shows_none p (seen_of p d))
    (λ n. none g n (planned_none p d taken g n))
    (λ n. by_test (fits p (seen_of p d).last)
    (λ l. opens (record { seen = planned_opens p d taken g n l; opens = record { good = g; some = n; fits = l } }))
    (λ l. short g n l (planned_by_area p d taken g n))))
    (λ g. let b = planned_bad p d taken g in bad g b.0 b.1)

pub taken_as_checked : (p : Plan) (d : List ℕ) → setup_answer p ≡ success → TakenByPlan (planned_seen p d) → SeenAsChecked p d
taken_as_checked p d taken o =
    by_plan p d taken
    (λ g a f. absurd (eqb-false _ bad_header o.good a))
    (λ g n a. absurd (eqb-false _ nothing o.some a))
    (λ g n l a.
    short_is p (seen_of p d).last l (λ f b. absurd (eqb-false _ out_of_reach o.near (a ∙ b))) (λ f r b. absurd (eqb-false _ no_room o.room (a ∙ b))))
    (λ x. x)

-- and so does one whose plan answers 0
pub success_opens : (p : Plan) (d : List ℕ) → setup_answer p ≡ success → (plan_by p d).answer ≡ success → Opens p (seen_of p d)
unfolding planned_seen
success_opens p d taken e =
    by_plan p d taken
    (λ g a f. absurd (omega (arith, sym e ∙ a)))
    (λ g n a. absurd (omega (arith, sym e ∙ a)))
    (λ g n l a. absurd (eqb-false _ success l (sym a ∙ e)))
    (λ x. x.opens)

-- the number of chunks of a plan, from a header that opens an attempt, and from any other
pub opens_chunks : (p : Plan) (d : List ℕ) → setup_answer p ≡ success → Opens p (seen_of p d) → (plan_by p d).chunks ≡ chunks_of p (seen_of p d).last
unfolding seen_of planned_by
opens_chunks p d taken o =
    ap (λ (x : Planned). x.chunks) (answers p d taken {n = success} (by_area p d taken o.good o.some ∙ eqb-true _ success o.fits))

pub chunks_at_most : (p : Plan) (d : List ℕ) → (plan_by p d).chunks ≤ chunks_of p (seen_of p d).last
unfolding seen_of plan_of planned_by
chunks_at_most p d =
    pick_cases (λ (x : Planned). x.chunks ≤ chunks_of p (check_of p.page p.caps.da4s d).fields.last)
    (eqb (answer_to (least p) (check_of p.page p.caps.da4s d)) success)
    (λ e. omega arith) (λ e. omega arith)

-- ---- what is told of a fault

-- a first header is found bad by its plan just where the check finds a fault, and that is told
pub planned_at_fault : (p : Plan) (d : List ℕ) → setup_answer p ≡ success → (planned_seen p d).answer ≡ bad_header → faultless (seen_of p d).fault ≡ false
unfolding seen_of
planned_at_fault p d taken e =
    by_plan p d taken
    (λ g a f. g)
    (λ g n a. absurd (omega (arith, sym e ∙ a)))
    (λ g n l a. short_is p (seen_of p d).last l (λ f b. absurd (omega (arith, sym e ∙ a ∙ b))) (λ f r b. absurd (omega (arith, sym e ∙ a ∙ b))))
    (λ x. absurd (omega (arith, sym e ∙ ap (λ (h : Seen). h.answer) x.seen)))

-- a bad header, a first one by its plan or a later one by its fault: the check finds it so, and what is seen is at fault
pub look_bad : (f : Phase) (p : Plan) (d : List ℕ) → setup_answer p ≡ success → judged_by f ≡ true → (f ≡ First → (look_by f p d).answer ≡ bad_header)
    → (closing_by f ≡ true → faultless (look_by f p d).fault ≡ false) → (faultless (seen_of p d).fault ≡ false) × ((look_by f p d).fault ≡ (seen_of p d).fault)
unfolding look_by
look_bad f p d taken j first later =
    by_header f j
    (λ e.
    let b = planned_at_fault p d taken (ap (λ (g : Phase). (look_by g p d).answer) (sym e) ∙ first e) in
    (b, ap (λ (g : Phase). (look_by g p d).fault) e ∙ (planned_bad p d taken b).1))
    (λ c.
    let e = ap (λ (h : Seen). h.fault) (look_closing f p d c) in
    (ap faultless (sym e) ∙ later c, e))
