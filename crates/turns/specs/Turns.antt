-- Document 01, "Host: header check and collection", and document 02, Q-10, on what a move makes of the attempt, of the phase and of the copy. a is the attempt, h what is
-- seen of the data.
-- Assumes nothing.
use Rattle.std.specs.Prelude.{ℕ, ◌+◌, ◌-◌, ◌*◌, List, Bool, true, false, eqb}
use Rattle.choices.specs.Choice.{pick}
use Rattle.answers.specs.Answers.{success}
use Rattle.pages.specs.Pages.{block}
use Rattle.plans.specs.declared.Plan.{Plan}
use Rattle.phases.specs.declared.Phase.{Phase}
use Rattle.phases.specs.declared.Phase.TheVariants.{Close, Ack, Ended}
use Rattle.plans.specs.Plans.{area_last, area_bytes, chunk_of, lead_of}
use Rattle.phases.specs.Asked.{phase_at}
use Rattle.completions.specs.declared.Seen.{Seen}
use Rattle.touches.specs.declared.Touch.{Touch}
use Rattle.touches.specs.declared.Touch.TheVariants.{Keep, Place, Tail, All}
use Rattle.phases.specs.declared.Attempt.{Attempt}
use Rattle.endings.specs.declared.Ending.{Ending}
use Rattle.judgement.specs.declared.Move.{Move}
use Rattle.judgement.specs.declared.Move.TheVariants.{End, Open, More, Skip, Acknowledge}
use Rattle.endings.specs.Endings.{number_of}
use Rattle.turns.specs.declared.Turn.{Turn}

-- an attempt's chunks start at block 1, right after the header
abbrev pub opening_of : Plan → List ℕ → Phase
opening_of p last = phase_at 1 (area_last p last)

-- and one follows a chunk's blocks after another
abbrev pub following_of : Plan → List ℕ → ℕ → Phase
following_of p last at = phase_at (at + chunk_of p) (area_last p last)

-- an ending is a success
abbrev pub good : Ending → Bool
good e = eqb (number_of e) success

-- success leaves what was collected and zeros after it, every other ending zeros
abbrev pub left_by : Ending → ℕ → Touch
left_by e place = pick (good e) (Tail place) All

abbrev pub turned : Phase → Bool → ℕ → List ℕ → Touch → Turn
turned f next generation last touch = record { phase = f; next = next; generation = generation; last = last; touch = touch }

-- by the move: the header seen opens an attempt; a good chunk goes into the copy at its block less the header, without the blocks that its command read
-- before it; a refused one goes straight to the header
unfoldable pub turn_of : Plan → Attempt → Seen → Move → Turn
turn_of p a h (End e next) = turned Ended next a.generation a.last (left_by e (area_bytes p a.last))
turn_of p a h (Open next) = turned (opening_of p h.last) next h.generation h.last Keep
turn_of p a h (More at) = turned (following_of p a.last at) false a.generation a.last (Place (block * lead_of p) (block * (at - 1)))
turn_of p a h Skip = turned (Close true) false a.generation a.last Keep
turn_of p a h Acknowledge = turned Ack false a.generation a.last Keep
