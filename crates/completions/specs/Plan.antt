-- Document 02, Q-4 and Q-10: one operation checks a header and plans a collection from it. It takes the page, the wanted area, the capabilities, c, the room and
-- the header, and gives what the header says with the number of chunks, or why not: 13 and 6 by setup's limits, then 7, 11, 19, 8 as at a first header.
-- Assumes nothing.
use Rattle.std.specs.Prelude.{ℕ, List, [], ◌∷◌, Bool, false, Option, Some, None, Result, Ok, Err, not, ◌&&◌, eqb}
use Rattle.choices.specs.Choice.{pick, first_that}
use Rattle.choices.specs.Tests.{holds}
use Rattle.answers.specs.Answers.{success, no_area4, bad_header, no_room, nothing, bad_setup, out_of_reach, refusal_number}
use Rattle.pages.specs.declared.Caps.{Caps}
use Rattle.pages.specs.Pages.{controller_page}
use Rattle.header.specs.declared.Fault.{Fault}
use Rattle.header.specs.declared.Fields.{Fields}
use Rattle.header.specs.Header.{faultless, no_fields, Checked, check_of}
use Rattle.plans.specs.declared.Plan.{Plan}
use Rattle.plans.specs.Plans.{plan_tests, without_area4, fits_room, in_reach, chunks_of}
use Rattle.completions.specs.declared.Planned.{Planned as Given}
use Rattle.completions.specs.declared.NoPlan.{NoPlan}
use Rattle.completions.specs.declared.NoPlan.TheVariants.{BadHeader, Refused}

-- the order of refusals: 13 where setup's limits do not hold, 6, 7, 11, 19, 8
abbrev pub plan_order : Bool → Bool → Bool → Bool → Bool → Bool → List (Bool × ℕ)
plan_order limits lacks bad none far large =
    (not limits, bad_setup)
    ∷ (lacks, no_area4)
    ∷ (bad, bad_header)
    ∷ (none, nothing)
    ∷ (far, out_of_reach)
    ∷ (large, no_room)
    ∷ []

-- what setup would be asked for: attempts and create are not among a plan's arguments, so the least that setup takes
abbrev pub least_plan : ℕ → ℕ → Caps → ℕ → ℕ → Plan
least_plan page area caps chunk room = record { page = page; create = false; area = area; chunk = chunk; attempts = 1; room = room; caps = caps }

-- a page of 08h whose header shows this TCDA has no data
abbrev pub no_data : ℕ → ℕ → Bool
no_data page tcda = eqb page controller_page && eqb tcda 0

-- the answer to a header that was checked: the first of the order
unfoldable pub answer_to : Plan → Checked → ℕ
answer_to p x =
    first_that
    (plan_order
    (holds (plan_tests p))
    (without_area4 p)
    (not (faultless x.fault))
    (no_data p.page x.fields.tcda)
    (not (in_reach p x.fields.last))
    (not (fits_room p x.fields.last)))
    success

-- what a plan from a header answers: 0 with what the header says and the number of chunks that bring the wanted area; or why not, 7 with what is at
-- fault, and zeros
pub record Planned : Type 0 where
  pub answer : ℕ
  pub fault : Option Fault
  pub fields : Fields
  pub chunks : ℕ

-- what is at fault is told with 7 alone
abbrev pub fault_told : ℕ → Option Fault → Option Fault
fault_told answer fault = pick (eqb answer bad_header) fault None

-- a refusal gives nothing else
abbrev pub refused_plan : ℕ → Option Fault → Planned
refused_plan answer fault = record { answer = answer; fault = fault; fields = no_fields; chunks = 0 }

-- what is planned by an answer
unfoldable pub planned_by : Plan → Checked → ℕ → Planned
planned_by p x answer =
    pick (eqb answer success)
    (record { answer = answer; fault = x.fault; fields = x.fields; chunks = chunks_of p x.fields.last })
    (refused_plan answer (fault_told answer x.fault))

-- the plan
unfoldable pub plan_of : ℕ → ℕ → Caps → ℕ → ℕ → List ℕ → Planned
plan_of page area caps chunk room h =
    planned_by (least_plan page area caps chunk room) (check_of page caps.da4s h) (answer_to (least_plan page area caps chunk room) (check_of page caps.da4s h))

-- the plan of what a collection was set up for
abbrev pub plan_by : Plan → List ℕ → Planned
plan_by p h = plan_of p.page p.area p.caps p.chunk p.room h

-- ---- for the code

-- the answer where setup's and the area's are known by their numbers
abbrev pub plan_answer : ℕ → Bool → Bool → ℕ → ℕ
plan_answer setup bad none area = first_that ((not (eqb setup success), setup) ∷ (bad, bad_header) ∷ (none, nothing) ∷ []) area

-- the number of why a header gives no plan
abbrev pub why_number : NoPlan → ℕ
why_number (BadHeader fault) = bad_header
why_number (Refused r) = refusal_number r

-- what is at fault in the header, where that is why
abbrev pub why_fault : NoPlan → Option Fault
why_fault (BadHeader fault) = Some fault
why_fault (Refused r) = None

-- what a plan that gives the fields and the chunks, or why not, answers
abbrev pub planned : Result Given NoPlan → Planned
planned (Ok x) = record { answer = success; fault = None; fields = x.fields; chunks = x.chunks }
planned (Err e) = refused_plan (why_number e) (why_fault e)
