-- Document 01, "Host: header check and collection", and document 02, Q-1, Q-4 and Q-10, on what a completion calls for: first what it tells, test by test, and
-- then the orders of endings over the tests. h is what is seen of its data, a the attempt.
-- Assumes nothing.
use Rattle.std.specs.Prelude.{ℕ, [], ◌∷◌, Bool, true, false, Option, not, ◌&&◌, leb, eqb}
use Rattle.choices.specs.Choice.{first_that}
use Rattle.answers.specs.Answers.{bad_header, no_room, nothing, out_of_reach}
use Rattle.pages.specs.Pages.{controller_page}
use Rattle.lastblocks.specs.LastBlocks.{same_last}
use Rattle.header.specs.declared.Fault.{Fault}
use Rattle.header.specs.Header.{faultless}
use Rattle.plans.specs.declared.Plan.{Plan}
use Rattle.phases.specs.declared.Phase.{Phase}
use Rattle.phases.specs.declared.Phase.TheVariants.{First, Chunk, Close, Ack, Ended}
use Rattle.plans.specs.Plans.{area_answer}
use Rattle.completions.specs.declared.Seen.{Seen}
use Rattle.completions.specs.Completions.{shows_none}
use Rattle.phases.specs.declared.Attempt.{Attempt}
use Rattle.endings.specs.declared.Ending.TheVariants.{Success, BadHeader, OutOfReach, NoRoom, UsedUp, Withdrawn, Nothing, BrokeItsWord}
use Rattle.judgement.specs.declared.Move.{Move}
use Rattle.judgement.specs.declared.Move.TheVariants.{End, Open, More, Skip, Acknowledge}

-- ---- what a completion tells

-- the header matches the attempt's header: its generation and all four last blocks are the same
abbrev pub matches : Attempt → Seen → Bool
matches a h = eqb h.generation a.generation && same_last h.last a.last

-- the acknowledgement shows another generation than the attempt's header
abbrev pub newer_than : Attempt → Seen → Bool
newer_than a h = not (eqb h.generation a.generation)

-- what a completion tells of an attempt, test by test: it is refused; what the plan from a first header answers; a header's fault, and that it has one; an
-- 08h header shows no data; what speaks against the area; the header matches the attempt's, in its generation and all four last blocks; its
-- generation is another; no attempt is left; the page is one to acknowledge
pub record Tests : Type 0 where
  pub refused : Bool
  pub answer : ℕ
  pub fault : Option Fault
  pub bad : Bool
  pub none : Bool
  pub area : ℕ
  pub same : Bool
  pub newer : Bool
  pub used : Bool
  pub acknowledged : Bool

unfoldable pub tests_of : Plan → Attempt → Bool → Seen → Tests
tests_of p a ok h = record {
  refused = not ok;
  answer = h.answer;
  fault = h.fault;
  bad = not (faultless h.fault);
  none = shows_none p h;
  area = area_answer p h.last;
  same = matches a h;
  newer = newer_than a h;
  used = leb p.attempts a.number;
  acknowledged = eqb p.page controller_page;
}

-- ---- what it calls for

-- a first header: 12, and then as its plan answers, 7, 11, 19, 8, or else it opens the attempt
unfoldable pub first_order : Tests → Move
first_order t =
    first_that
    ((t.refused, End BrokeItsWord false)
    ∷ (eqb t.answer bad_header, End (BadHeader t.fault) false)
    ∷ (eqb t.answer nothing, End Nothing false)
    ∷ (eqb t.answer out_of_reach, End OutOfReach false)
    ∷ (eqb t.answer no_room, End NoRoom false)
    ∷ [])
    (Open false)

-- by the match: after a refused chunk 12, or else the copy stands, which is to be acknowledged on 08h and done on 07h; on a mismatch 9, 19, 8, or
-- else the header opens the next attempt
unfoldable pub match_order : Tests → Bool → Move
match_order t after =
    first_that
    ((t.same && after, End BrokeItsWord false)
    ∷ (t.same && t.acknowledged, Acknowledge)
    ∷ (t.same, End (Success false) false)
    ∷ (t.used, End UsedUp false)
    ∷ (eqb t.area out_of_reach, End OutOfReach true)
    ∷ (eqb t.area no_room, End NoRoom true)
    ∷ [])
    (Open true)

-- a later header, after a refused chunk or not: 12, 7, 10, and then by the match
unfoldable pub later_order : Tests → Bool → Move
later_order t after =
    first_that
    ((t.refused, End BrokeItsWord false)
    ∷ (t.bad, End (BadHeader t.fault) false)
    ∷ (t.none, End Withdrawn false)
    ∷ [])
    (match_order t after)

-- a chunk: a refused one goes straight to the header
abbrev pub chunk_order : Tests → ℕ → Move
chunk_order t at = first_that ((t.refused, Skip) ∷ []) (More at)

-- the acknowledgement: 12, or else done
abbrev pub ack_order : Tests → Move
ack_order t = first_that ((t.refused, End BrokeItsWord false) ∷ []) (End (Success t.newer) false)

-- by what was awaited. Nothing completes after the ending: a step refuses it before it is judged.
unfoldable pub judge_by : Phase → Tests → Move
judge_by First t = first_order t
judge_by (Chunk at) t = chunk_order t at
judge_by (Close after) t = later_order t after
judge_by Ack t = ack_order t
judge_by Ended t = End BrokeItsWord false
