-- A run of two attempts, computed: the second header has another generation and one block, and of the first attempt's two chunks nothing is in
-- the finished copy. A completion that does not fit changes nothing.
-- Assumes nothing.
use Rattle.std.specs.Prelude.{◌≡◌, refl, List, [], ◌∷◌, ◌++◌, true, false, replicate}
use Rattle.choices.specs.Tests.{holds}
use Rattle.copies.specs.Parts.{zeros, put_at}
use Rattle.pages.specs.Pages.{host_page}
use Rattle.lastblocks.specs.LastBlocks.{last_ok, same_last}
use Rattle.header.specs.Header.{field_fault, fault_of, check_of}
use Rattle.plans.specs.declared.Plan.{Plan}
use Rattle.plans.specs.Plans.{setup_answer, in_reach, fits_room, area_answer}
use Rattle.phases.specs.Asked.{chunk_blocks, within_by, phase_at}
use Rattle.completions.specs.Plan.{answer_to, planned_by, plan_of}
use Rattle.completions.specs.Completions.{generation_of, planned_seen, seen_of, look_by}
use Rattle.endings.specs.declared.Ending.TheVariants.{Success}
use Rattle.judgement.specs.Judgement.{tests_of, first_order, match_order, later_order, judge_by}
use Rattle.turns.specs.Turns.{turn_of}
use Rattle.touches.specs.Touched.{touched}
use Rattle.collection.specs.Collection.{expected_of, look_of, valid_state, completion_fits, refusal_of, move_of, turn_by, act_of, decide_of, setup_of, step_of, copy_after}
use Rattle.runs.specs.Held.{Reply, held_after, held_of}
use Rattle.runs.specs.Examples.{example_plan, header, good, filled}

abbrev plan : Plan
plan = example_plan true host_page 1 1 2 1024

abbrev replies : List Reply
replies =
    good (header 1 2)
    ∷ good (filled 7)
    ∷ good (7 ∷ [])
    ∷ good (filled 8)
    ∷ good (header 2 1)
    ∷ good (filled 9)
    ∷ good (header 2 1)
    ∷ []

-- the copy, which was of ones, and what each attempt gathered, the last one in front
pub stale : ((held_of plan (replicate 1024 1) replies).copy ≡ filled 9 ++ zeros 512)
    × ((held_of plan (replicate 1024 1) replies).attempts ≡ filled 9 ∷ (filled 7 ++ filled 8) ∷ [])
    × ((held_of plan (replicate 1024 1) replies).endings ≡ record { ending = Success false; count = 6 } ∷ [])
unfolding held_after step_of copy_after setup_of decide_of act_of turn_by turn_of move_of refusal_of completion_fits valid_state expected_of look_of look_by planned_seen plan_of planned_by answer_to seen_of generation_of touched tests_of first_order match_order later_order judge_by setup_answer in_reach fits_room area_answer chunk_blocks within_by phase_at check_of fault_of field_fault last_ok same_last holds put_at
stale = (refl, refl, refl)
