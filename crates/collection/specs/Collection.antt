-- Document 01, "Host: header check and collection", on the state: setup, what a step refuses, what it makes of the state, and what happens
-- to the copy. What is awaited is in the crate plans, what a completion calls for in judgement. h is what is seen of the data.
-- Assumes nothing.
use Rattle.std.specs.Prelude.{ℕ, ◌+◌, ◌≤◌, List, Bool, length, eqb, Option, None}
use Rattle.choices.specs.Choice.{pick}
use Rattle.copies.specs.Parts.{zeros}
use Rattle.answers.specs.Answers.{success}
use Rattle.words.specs.declared.Words.{Words}
use Rattle.header.specs.declared.Fault.{Fault}
use Rattle.plans.specs.declared.Plan.{Plan}
use Rattle.phases.specs.declared.Phase.{Phase}
use Rattle.phases.specs.declared.Phase.TheVariants.{First, Ended}
use Rattle.phases.specs.Phases.{ended_by}
use Rattle.plans.specs.Plans.{most_attempts, setup_answer}
use Rattle.phases.specs.Asked.{words_by, expected_by}
use Rattle.completions.specs.declared.Seen.{Seen}
use Rattle.touches.specs.declared.Touch.{Touch}
use Rattle.touches.specs.declared.Touch.TheVariants.{Keep}
use Rattle.completions.specs.Completions.{look_by}
use Rattle.endings.specs.declared.Ending.{Ending}
use Rattle.judgement.specs.declared.Move.{Move}
use Rattle.judgement.specs.declared.Move.TheVariants.{End, Open, More, Skip, Acknowledge}
use Rattle.endings.specs.Endings.{number_of, fault_in}
use Rattle.judgement.specs.Judgement.{tests_of, judge_by}
use Rattle.turns.specs.declared.Turn.{Turn}
use Rattle.refusals.specs.Refusals.{most_count, valid_by, fits_by, first_refusal}
use Rattle.turns.specs.Turns.{turn_of}
use Rattle.touches.specs.Touched.{touched}
use Rattle.collection.specs.declared.Collection.{Collection}
use Rattle.collection.specs.Told.{Next}
use Rattle.collection.specs.declared.Next.TheVariants.{Send, End as Ends, Refuse}
use Rattle.collection.specs.Told.{Stepped}
use Rattle.collection.specs.Told.{Decided}

-- ---- what is awaited

-- the awaited command
unfoldable pub awaited_of : Collection → Words
awaited_of s = words_by s.phase s.plan s.attempt.last

-- the bytes that a success brings
unfoldable pub expected_of : Collection → ℕ
expected_of s = expected_by s.phase s.plan s.attempt.last

-- what is seen of a completion's data
unfoldable pub look_of : Collection → List ℕ → Seen
look_of s d = look_by s.phase s.plan d

-- ---- refusals of a step: 14, 13, 15

-- what a state's numbers must keep: setup's limits, the attempt, the command count, the header's area and the awaited chunk
unfoldable pub valid_state : Collection → Bool
valid_state s = valid_by s.plan s.phase s.attempt s.count

-- a completion that fits the awaited command: a success brings its bytes and a refusal none, and the copy is as long as at setup
unfoldable pub completion_fits : Collection → Bool → ℕ → ℕ → Bool
completion_fits s ok bytes copy = fits_by s.plan.room (expected_of s) ok bytes copy

-- in this order, or 0
unfoldable pub refusal_of : Collection → Bool → ℕ → ℕ → ℕ
refusal_of s ok bytes copy = first_refusal (ended_by s.phase) (valid_state s) (completion_fits s ok bytes copy)

-- ---- what becomes of the state, and what happens to the copy

-- what a completion calls for in a state
unfoldable pub move_of : Collection → Bool → Seen → Move
move_of s ok h = judge_by s.phase (tests_of s.plan s.attempt ok h)

-- what follows it
unfoldable pub turn_by : Collection → Seen → Move → Turn
turn_by s h m = turn_of s.plan s.attempt h m

-- the number of this attempt, or of the next one
abbrev pub number_in : Collection → Bool → ℕ
number_in s next = pick next (s.attempt.number + 1) s.attempt.number

-- the state that a turn leads to, after this many commands
abbrev pub turned_to : Collection → Turn → ℕ → Collection
turned_to s t count = record {
  plan = s.plan;
  phase = t.phase;
  attempt = record { number = number_in s t.next; generation = t.generation; last = t.last };
  count = count;
}

-- the command that a state awaits is sent
abbrev pub sends : Collection → Stepped
sends s = record { state = s; next = Send (awaited_of s) }

-- an ending says the count
abbrev pub ends : Collection → Ending → Stepped
ends s e = record { state = s; next = Ends (record { ending = e; count = s.count }) }

-- a refusal leaves the state
abbrev pub refuses : Collection → ℕ → Stepped
refuses s answer = record { state = s; next = Refuse answer }

-- every command sent is counted
unfoldable pub act_of : Collection → Move → Turn → Stepped
act_of s (End e next) t = ends (turned_to s t s.count) e
act_of s (Open next) t = sends (turned_to s t (s.count + 1))
act_of s (More at) t = sends (turned_to s t (s.count + 1))
act_of s Skip t = sends (turned_to s t (s.count + 1))
act_of s Acknowledge t = sends (turned_to s t (s.count + 1))

-- a step and what happens to the copy with it
abbrev pub decided_by : Stepped → Touch → Decided
decided_by stepped touch = record { stepped = stepped; touch = touch }

-- a move is made
abbrev pub made_of : Collection → Seen → Move → Decided
made_of s h m = decided_by (act_of s m (turn_by s h m)) (turn_by s h m).touch

-- a refusal changes nothing
abbrev pub refused_of : Collection → ℕ → Decided
refused_of s answer = decided_by (refuses s answer) Keep

-- the core: it knows of a completion whether it is a success, its data's length, what was seen of it, and the copy's length
unfoldable pub decide_of : Collection → Bool → ℕ → ℕ → Seen → Decided
decide_of s ok bytes copy h =
    pick (eqb (refusal_of s ok bytes copy) success) (made_of s h (move_of s ok h)) (refused_of s (refusal_of s ok bytes copy))

-- ---- setup and step

-- a state before any header
abbrev pub beginning : Plan → Phase → ℕ → Collection
beginning p f count = record { plan = p; phase = f; attempt = record { number = 1; generation = 0; last = zeros 4 }; count = count }

-- setup: the first command, or a refusal with an ended state
unfoldable pub setup_of : Plan → Stepped
setup_of p =
    pick (eqb (setup_answer p) success)
    (sends (beginning p First 1))
    (refuses (beginning p Ended 0) (setup_answer p))

-- a step on data d and a copy of n bytes
unfoldable pub step_of : Collection → Bool → List ℕ → ℕ → Stepped
step_of s ok d n = (decide_of s ok (length d) n (look_of s d)).stepped

-- the copy after a step
unfoldable pub copy_after : Collection → Bool → List ℕ → List ℕ → List ℕ
copy_after s ok d copy = touched (decide_of s ok (length d) (length copy) (look_of s d)).touch d copy

-- the paper's number of an answer: 0 with a command, which refuses nothing
abbrev pub answer_of : Next → ℕ
answer_of (Send w) = success
answer_of (Ends e) = number_of e.ending
answer_of (Refuse answer) = answer

-- what an answer says is at fault in a header: nothing with a command or a refusal
abbrev pub fault_said : Next → Option Fault
fault_said (Send w) = None
fault_said (Ends e) = fault_in e.ending
fault_said (Refuse answer) = None

-- ---- for the code's arithmetic

-- what the numbers of a valid state are
pub record Bounded (s : Collection) : Type 0 where
  pub attempt : s.attempt.number ≤ most_attempts
  pub count : s.count ≤ most_count most_attempts
