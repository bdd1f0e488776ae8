-- Old runs, computed: the header that comes with the blocks is not judged, a refused middle command is 12 on a match, and 19 comes just before 8, at a first
-- header and at a later one.
-- Assumes nothing.
use Rattle.std.specs.Prelude.{ℕ, ◌≡◌, refl, List, [], ◌∷◌, ◌++◌, false, replicate}
use Rattle.choices.specs.Tests.{holds}
use Rattle.copies.specs.Parts.{zeros, put_at}
use Rattle.pages.specs.Pages.{host_page}
use Rattle.lastblocks.specs.LastBlocks.{last_ok, same_last}
use Rattle.header.specs.Header.{field_fault, fault_of, check_of}
use Rattle.plans.specs.declared.Plan.{Plan}
use Rattle.plans.specs.Plans.{setup_answer, in_reach, fits_room, area_answer}
use Rattle.phases.specs.Asked.{chunk_blocks, within_by, phase_at}
use Rattle.completions.specs.Plan.{answer_to, planned_by, plan_of}
use Rattle.completions.specs.Completions.{generation_of, planned_seen, seen_of, look_by}
use Rattle.endings.specs.declared.Ending.{Ending}
use Rattle.endings.specs.declared.Ending.TheVariants.{Success, OutOfReach, NoRoom, UsedUp, BrokeItsWord}
use Rattle.judgement.specs.Judgement.{tests_of, first_order, match_order, later_order, judge_by}
use Rattle.turns.specs.Turns.{turn_of}
use Rattle.touches.specs.Touched.{touched}
use Rattle.collection.specs.declared.Finish.{Finish}
use Rattle.collection.specs.Collection.{expected_of, look_of, valid_state, completion_fits, refusal_of, move_of, turn_by, act_of, decide_of, setup_of, step_of, copy_after}
use Rattle.runs.specs.Held.{Reply, Held, held_after, held_of}
use Rattle.runs.specs.Examples.{example_plan, header, good, refused, filled}

-- area 1 of 07h without extended data, into a copy of two blocks, which was of ones
abbrev plan : ℕ → Plan
plan attempts = example_plan false host_page 1 0 attempts 1024

abbrev heard : ℕ → List Reply → Held
heard attempts replies = held_of (plan attempts) (replicate 1024 1) replies

abbrev over : Ending → ℕ → List Finish
over ending count = record { ending = ending; count = count } ∷ []

pub record OldRuns : Type 0 where
  -- a middle command that brings bytes which are no header, and then a block: the block is the copy
  pub unjudged : (heard 1 (good (header 1 1) ∷ good (filled 255 ++ filled 7) ∷ good (header 1 1) ∷ [])).copy ≡ filled 7 ++ zeros 512
  pub decided : (heard 1 (good (header 1 1) ∷ good (filled 255 ++ filled 7) ∷ good (header 1 1) ∷ [])).endings ≡ over (Success false) 3
  -- no block is wanted: there is no middle command
  pub skipped : (heard 1 (good (header 1 0) ∷ good (header 1 0) ∷ [])).endings ≡ over (Success false) 2
  -- a refused middle command, and a closing header that matches
  pub broke : (heard 1 (good (header 1 1) ∷ refused ∷ good (header 1 1) ∷ [])).endings ≡ over BrokeItsWord 3
  -- 32 blocks, for which there is no room either: 19 at a first header and at a later one, where 9 comes before it; then the copy is zeros
  pub far_first : (heard 2 (good (header 1 32) ∷ [])).endings ≡ over OutOfReach 1
  pub far_later : (heard 2 (good (header 1 0) ∷ good (header 2 32) ∷ [])).endings ≡ over OutOfReach 2
  pub used_before : (heard 1 (good (header 1 0) ∷ good (header 2 32) ∷ [])).endings ≡ over UsedUp 2
  pub cleared : (heard 2 (good (header 1 0) ∷ good (header 2 32) ∷ [])).copy ≡ zeros 1024
  -- 20 blocks: 8
  pub large : (heard 2 (good (header 1 20) ∷ [])).endings ≡ over NoRoom 1

pub old_runs : OldRuns
unfolding held_after step_of copy_after setup_of decide_of act_of turn_by turn_of move_of refusal_of completion_fits valid_state expected_of look_of look_by planned_seen plan_of planned_by answer_to seen_of generation_of touched tests_of first_order match_order later_order judge_by setup_answer in_reach fits_room area_answer chunk_blocks within_by phase_at check_of fault_of field_fault last_ok same_last holds put_at
old_runs = record {
  unjudged = refl;
  decided = refl;
  skipped = refl;
  broke = refl;
  far_first = refl;
  far_later = refl;
  used_before = refl;
  cleared = refl;
  large = refl;
}
