-- The runs, computed from the definitions.
-- Assumes nothing.
use Rattle.std.specs.Prelude.{ℕ, ◌≡◌, refl, List, [], ◌∷◌, ◌++◌, true, false, replicate, length}
use Rattle.choices.specs.Tests.{holds}
use Rattle.copies.specs.Parts.{zeros, put_at}
use Rattle.lastblocks.specs.LastBlocks.{last_ok, same_last, greatest_of}
use Rattle.pages.specs.Pages.{blocks_of, size_of}
use Rattle.trimming.specs.Trimming.{top_of, trimmed_to, trim_of}
use Rattle.words.specs.Words.{taken, built_of}
use Rattle.header.specs.Header.{header_of, fault_of, no_fields, check_of}
use Rattle.records.specs.Records.{identity_ok, store_ok, controller_ok, agrees_with, host_fields, controller_fields, fields_for}
use Rattle.serving.specs.Serving.{window_of, page_bytes}
use Rattle.verdicts.specs.Verdicts.{candidate_ok, field_bad, last_after, command_answer, capture_answer}
use Rattle.phases.specs.Asked.{chunk_blocks, within_by, phase_at, words_by}
use Rattle.plans.specs.Plans.{setup_answer, in_reach, fits_room, area_answer}
use Rattle.plans.specs.declared.Plan.{Plan}
use Rattle.phases.specs.declared.Phase.TheVariants.{First}
use Rattle.completions.specs.Plan.{answer_to, planned_by, plan_of}
use Rattle.completions.specs.Completions.{look_by, planned_seen, seen_of, generation_of}
use Rattle.endings.specs.declared.Ending.{Ending}
use Rattle.endings.specs.declared.Ending.TheVariants.{Success, OutOfReach, UsedUp, BrokeItsWord}
use Rattle.judgement.specs.Judgement.{judge_by, tests_of, first_order, match_order, later_order}
use Rattle.turns.specs.Turns.{turn_of}
use Rattle.touches.specs.Touched.{touched}
use Rattle.collection.specs.Collection.{setup_of, step_of, decide_of, refusal_of, valid_state, completion_fits, expected_of, look_of, move_of, turn_by, act_of as moved, awaited_of, beginning, copy_after}
use Rattle.collection.specs.Told.{Next}
use Rattle.collection.specs.declared.Next.TheVariants.{Send, End as Ends}
use Rattle.controller.specs.Controller.{command_of, capture_of, drop_of, capture_answered, controller_captured, answered, before, afterwards, sent_of, page_of, host_captured}
use Rattle.runs.specs.Run.{most_chunks}
use Rattle.sources.specs.Source.{Collector, ours, Turn, Stand, happens, happen, hears, run, begun, collected}
use Rattle.demand3.specs.Bench.{Sent, Taken, Dropped, act_of, captures_of, drops_of, own_of, controller_source}
use Rattle.demand3.specs.Shown.{wanted_area}
use Rattle.demand3.specs.Demand3.{final}
use Rattle.worked_runs.specs.Scene.{block_of, drive, old_drive, far_drive, host_drive, newer, created, create_words, lent_of, scene_plan, old_plan, host_plan, small_drive, small_plan, stale, quiet, at_once, after}
use Rattle.worked_runs.specs.Lazy.{stops_with, never_stops, reads_once, compares_nothing, compares_generations, fakes_the_rest, invents_its_count}

-- a run of a collector on 08h, with so many attempts, buffers of so many bytes and these turns
abbrev pub run_of : Collector → ℕ → ℕ → List (Turn (controller_source 8)) → Stand (controller_source 8)
run_of c attempts bytes ts = final c (scene_plan attempts) (stale 1024) drive (lent_of bytes) ts

-- as many turns as an undisturbed run needs
abbrev pub undisturbed : List (Turn (controller_source 8))
undisturbed = after 8 512 [] 2

-- a capture between the two chunks of the first attempt, and so many commands after those
abbrev pub disturbed : ℕ → List (Turn (controller_source 8))
disturbed n = after 8 512 (Taken newer ∷ []) n

-- a capture between the last check and the acknowledgement
abbrev pub late : List (Turn (controller_source 8))
late = quiet 8 512 3 ++ at_once 8 512 (Taken newer ∷ []) 0

-- without extended data, with a capture between header and blocks together and the closing header, and three commands after those
abbrev pub old_disturbed : List (Turn (controller_source 8))
old_disturbed = after 8 1536 (Taken newer ∷ []) 3

abbrev pub old_run : Stand (controller_source 8)
old_run = final ours (old_plan 2) (stale 1024) old_drive (lent_of 1536) old_disturbed

-- without extended data, and with an area past block 31
abbrev pub far_run : Stand (controller_source 8)
far_run = final ours (old_plan 2) (stale 1024) far_drive (lent_of 512) []

-- without extended data, a collector that always stops and says that the area is out of reach
abbrev pub old_stopped : List (Turn (controller_source 8)) → Stand (controller_source 8)
old_stopped ts = final (stops_with OutOfReach) (old_plan 2) (stale 1024) old_drive (lent_of 1536) ts

-- another host's create after the first chunk of 07h
abbrev pub host_disturbed : List (Turn (controller_source 7))
host_disturbed = after 7 1024 (Sent create_words created (stale 512) ∷ []) 6

abbrev pub host_run : Stand (controller_source 7)
host_run = final ours host_plan (stale 3072) host_drive (lent_of 1024) host_disturbed

-- a run of a collector on 07h of the small drive, with these last blocks and turns
abbrev pub small_run : Collector → (area chunk attempts : ℕ) → List ℕ → List (Turn (controller_source 7)) → Stand (controller_source 7)
small_run c area chunk attempts last ts = final c (small_plan area chunk attempts) (stale 1024) (small_drive last) (lent_of 1024) ts

-- the small drive's last blocks
abbrev pub two : List ℕ
two = 2 ∷ 2 ∷ 2 ∷ 0 ∷ []

-- a drop before the second command, and one after both chunks
abbrev pub drop_first : ℕ → List (Turn (controller_source 7))
drop_first n = at_once 7 1024 (Dropped ∷ []) n

abbrev pub drop_last : ℕ → List (Turn (controller_source 7))
drop_last n = record { events = []; lent = lent_of 1024 } ∷ after 7 1024 (Dropped ∷ []) n

-- what came of a run: what was said last, the copy, the wanted area at the last check, the captures and drops, the commands answered 3, 4 or 5,
-- the commands given, and C
pub record Came (p : Plan) (s : Stand (controller_source p.page)) (said : Next) (copy area : List ℕ) (changes refused sent chunks : ℕ) : Type 0 where
  pub said_is : s.said ≡ said
  pub copy_is : s.copy ≡ copy
  pub area_is : wanted_area p s.checked ≡ area
  pub changes_are : s.counts.changes ≡ changes
  pub refused_are : s.counts.lent_refusals ≡ refused
  pub sent_are : length s.sent ≡ sent
  pub chunks_are : most_chunks p s.headers ≡ chunks

abbrev pub ends_with : Ending → ℕ → Next
ends_with e count = Ends (record { ending = e; count = count })

-- the page before the capture and after it, and the first block of the one before the second block of the other
abbrev pub old : List ℕ
old = block_of 5 ++ block_of 6

abbrev pub new : List ℕ
new = block_of 7 ++ block_of 8

abbrev pub mixed : List ℕ
mixed = block_of 5 ++ block_of 8

pub record Computed : Type 0 where
  -- ours
  pub ours_undisturbed : Came (scene_plan 2) (run_of ours 2 512 undisturbed) (ends_with (Success false) 5) old old 0 0 5 2
  pub ours_disturbed : Came (scene_plan 2) (run_of ours 2 512 (disturbed 5)) (ends_with (Success false) 8) new new 1 0 8 2
  pub ours_host : Came host_plan host_run (ends_with (Success false) 9) (replicate 2560 3 ++ zeros 512) (replicate 2560 3) 1 0 9 3
  pub ours_old : Came (old_plan 2) old_run (ends_with (Success false) 6) new new 1 0 6 1
  pub ours_far : (far_run.said ≡ ends_with OutOfReach 1) × (far_run.copy ≡ zeros 1024) × (far_run.counts.changes ≡ 0) × (far_run.counts.lent_refusals ≡ 0)
  pub ours_late : Came (scene_plan 2) (run_of ours 2 512 late) (ends_with (Success true) 5) old old 1 0 5 2
  pub late_most : (run_of ours 2 512 late).counts.most_in_attempt ≡ 0
  -- ours, with a drop on 07h: before the first chunk, a block a command (the second chunk is refused) and two; after the last chunk; where no block was
  -- wanted before it either; and where 07h was empty already
  pub dropped_early : Came (small_plan 3 1 2) (small_run ours 3 1 2 two (drop_first 5)) (ends_with (Success false) 5) (zeros 1024) [] 1 0 5 2
  pub dropped_most : (small_run ours 3 1 2 two (drop_first 5)).counts.most_in_attempt ≡ 0
  pub dropped_whole : Came (small_plan 3 2 2) (small_run ours 3 2 2 two (drop_first 5)) (ends_with (Success false) 4) (zeros 1024) [] 1 0 4 1
  pub dropped_late : Came (small_plan 3 1 2) (small_run ours 3 1 2 two (drop_last 3)) (ends_with (Success false) 5) (zeros 1024) [] 1 0 5 2
  pub dropped_unwanted : Came (small_plan 1 1 2) (small_run ours 1 1 2 (0 ∷ 0 ∷ 2 ∷ 0 ∷ []) (drop_first 5)) (ends_with (Success false) 3) (zeros 1024) [] 1 0 3 0
  pub dropped_empty : Came (small_plan 3 1 2) (small_run ours 3 1 2 (zeros 4) (drop_first 5)) (ends_with (Success false) 2) (zeros 1024) [] 1 0 2 0
  -- lazy collectors
  pub stopped : (e : Ending) → Came (scene_plan 2) (run_of (stops_with e) 2 512 undisturbed) (ends_with e 1) (zeros 1024) old 0 0 1 2
  pub stopped_old : Came (old_plan 2) (old_stopped []) (ends_with OutOfReach 1) (zeros 1024) old 0 0 1 1
  pub stopped_live : (e : Ending) → (run_of (stops_with e) 2 512 undisturbed).checked.own.controller.tcda ≡ 1
  pub read_once : Came (scene_plan 2) (run_of reads_once 2 512 (disturbed 5)) (ends_with (Success false) 3) mixed old 1 0 3 2
  pub compared_nothing : Came (scene_plan 2) (run_of compares_nothing 2 512 (disturbed 5)) (ends_with (Success false) 5) mixed new 1 0 5 2
  pub compared_generations : Came (small_plan 3 1 2) (small_run compares_generations 3 1 2 two (drop_last 3)) (ends_with (Success false) 4) (block_of 1 ++ block_of 2) [] 1 0 4 2
  pub faked : Came (scene_plan 2) (run_of fakes_the_rest 2 512 undisturbed) (ends_with (Success false) 5) (block_of 5 ++ block_of 9) old 0 0 5 2
  pub invented : Came (scene_plan 2) (run_of invents_its_count 2 512 undisturbed) (ends_with (Success false) 6) old old 0 0 5 2
  pub going_on : Came (scene_plan 2) (run_of never_stops 2 512 undisturbed) (Send (awaited_of (beginning (scene_plan 2) First 1))) (stale 1024) old 0 0 6 2
  -- ours, without a premise
  pub used_up : Came (scene_plan 1) (run_of ours 1 512 (disturbed 1)) (ends_with UsedUp 4) (zeros 1024) new 1 0 4 2
  pub used_up_by_a_drop : Came (small_plan 3 1 1) (small_run ours 3 1 1 two (drop_last 3)) (ends_with UsedUp 4) (zeros 1024) [] 1 0 4 2
  pub short : Came (scene_plan 2) (run_of ours 2 511 []) (ends_with BrokeItsWord 1) (zeros 1024) old 0 1 1 0

pub computed : Computed
unfolding chunk_blocks drop_of capture_of capture_answered controller_captured capture_answer final collected run happen happens hears begun setup_of setup_answer holds step_of decide_of refusal_of valid_state within_by in_reach fits_room area_answer completion_fits expected_of look_of look_by planned_seen plan_of planned_by answer_to seen_of check_of fault_of last_ok same_last generation_of move_of judge_by tests_of first_order match_order later_order turn_by turn_of moved awaited_of words_by built_of taken phase_at copy_after touched put_at command_of answered command_answer agrees_with store_ok controller_ok identity_ok greatest_of field_bad last_after candidate_ok size_of blocks_of top_of trimmed_to trim_of before afterwards sent_of page_of page_bytes window_of header_of host_fields controller_fields fields_for host_captured own_of act_of captures_of drops_of quiet wanted_area most_chunks no_fields
computed = record {
  ours_undisturbed = record { said_is = refl; copy_is = refl; area_is = refl; changes_are = refl; refused_are = refl; sent_are = refl; chunks_are = refl };
  ours_disturbed = record { said_is = refl; copy_is = refl; area_is = refl; changes_are = refl; refused_are = refl; sent_are = refl; chunks_are = refl };
  ours_host = record { said_is = refl; copy_is = refl; area_is = refl; changes_are = refl; refused_are = refl; sent_are = refl; chunks_are = refl };
  ours_old = record { said_is = refl; copy_is = refl; area_is = refl; changes_are = refl; refused_are = refl; sent_are = refl; chunks_are = refl };
  ours_far = (refl, refl, refl, refl);
  ours_late = record { said_is = refl; copy_is = refl; area_is = refl; changes_are = refl; refused_are = refl; sent_are = refl; chunks_are = refl };
  late_most = refl;
  dropped_early = record { said_is = refl; copy_is = refl; area_is = refl; changes_are = refl; refused_are = refl; sent_are = refl; chunks_are = refl };
  dropped_most = refl;
  dropped_whole = record { said_is = refl; copy_is = refl; area_is = refl; changes_are = refl; refused_are = refl; sent_are = refl; chunks_are = refl };
  dropped_late = record { said_is = refl; copy_is = refl; area_is = refl; changes_are = refl; refused_are = refl; sent_are = refl; chunks_are = refl };
  dropped_unwanted = record { said_is = refl; copy_is = refl; area_is = refl; changes_are = refl; refused_are = refl; sent_are = refl; chunks_are = refl };
  dropped_empty = record { said_is = refl; copy_is = refl; area_is = refl; changes_are = refl; refused_are = refl; sent_are = refl; chunks_are = refl };
  stopped = λ e. record { said_is = refl; copy_is = refl; area_is = refl; changes_are = refl; refused_are = refl; sent_are = refl; chunks_are = refl };
  stopped_old = record { said_is = refl; copy_is = refl; area_is = refl; changes_are = refl; refused_are = refl; sent_are = refl; chunks_are = refl };
  stopped_live = λ e. refl;
  read_once = record { said_is = refl; copy_is = refl; area_is = refl; changes_are = refl; refused_are = refl; sent_are = refl; chunks_are = refl };
  compared_nothing = record { said_is = refl; copy_is = refl; area_is = refl; changes_are = refl; refused_are = refl; sent_are = refl; chunks_are = refl };
  compared_generations = record { said_is = refl; copy_is = refl; area_is = refl; changes_are = refl; refused_are = refl; sent_are = refl; chunks_are = refl };
  faked = record { said_is = refl; copy_is = refl; area_is = refl; changes_are = refl; refused_are = refl; sent_are = refl; chunks_are = refl };
  invented = record { said_is = refl; copy_is = refl; area_is = refl; changes_are = refl; refused_are = refl; sent_are = refl; chunks_are = refl };
  going_on = record { said_is = refl; copy_is = refl; area_is = refl; changes_are = refl; refused_are = refl; sent_are = refl; chunks_are = refl };
  used_up = record { said_is = refl; copy_is = refl; area_is = refl; changes_are = refl; refused_are = refl; sent_are = refl; chunks_are = refl };
  used_up_by_a_drop = record { said_is = refl; copy_is = refl; area_is = refl; changes_are = refl; refused_are = refl; sent_are = refl; chunks_are = refl };
  short = record { said_is = refl; copy_is = refl; area_is = refl; changes_are = refl; refused_are = refl; sent_are = refl; chunks_are = refl };
}
