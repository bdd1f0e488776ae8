-- Not an empty promise: a program whose calls are all that is asked of it with k = 1, computed from the definitions on bytes. Another host's create comes
-- before its closing header, so it takes two attempts, and calls `bumbazeel_command` as often as the bound allows.
-- Assumes nothing.
use Rattle.std.specs.Prelude.{ℕ, ◌≡◌, refl, List, [], ◌∷◌, ◌++◌, get_or, replicate}
use Rattle.std.proofs.Common.{arith}
use Rattle.choices.specs.Tests.{holds}
use Rattle.copies.specs.Parts.{zeros, put_at}
use Rattle.littleendian.specs.Numbers.{value_at}
use Rattle.lastblocks.specs.LastBlocks.{last_ok, same_last, greatest_of}
use Rattle.pages.specs.Pages.{blocks_of, size_of}
use Rattle.trimming.specs.Trimming.{top_of, trimmed_to, trim_of}
use Rattle.words.specs.Words.{taken, built_of}
use Rattle.header.specs.Header.{header_of, fault_of, check_of}
use Rattle.records.specs.Records.{identity_ok, store_ok, controller_ok, agrees_with, host_fields, controller_fields, fields_for, fresh_of}
use Rattle.serving.specs.Serving.{window_of, page_bytes}
use Rattle.verdicts.specs.Verdicts.{candidate_ok, field_bad, last_after, command_answer}
use Rattle.plans.specs.Plans.{setup_answer, in_reach, fits_room, area_answer}
use Rattle.phases.specs.Asked.{chunk_blocks, within_by, phase_at, words_by}
use Rattle.completions.specs.Plan.{answer_to, planned_by, plan_of}
use Rattle.completions.specs.Completions.{look_by, planned_seen, seen_of, generation_of}
use Rattle.judgement.specs.Judgement.{judge_by, tests_of, first_order, match_order, later_order}
use Rattle.turns.specs.Turns.{turn_of}
use Rattle.touches.specs.Touched.{touched}
use Rattle.collection.specs.Collection.{setup_of, step_of, decide_of, refusal_of, valid_state, completion_fits, expected_of, look_of, move_of, turn_by, act_of, awaited_of, copy_after}
use Rattle.controller.specs.Controller.{Candidate, candidate_of, command_of, answered, before, afterwards, sent_of, page_of, host_captured}
use Rattle.runs.specs.Run.{most_chunks}
use Rattle.sources.specs.Source.{Turn}
use Rattle.sources.specs.Promise.{most_commands}
use Rattle.demand3.specs.Bench.{Sent, Loan, controller_source}
use Rattle.shared_layouts.specs.Layouts.{caps_of}
use Rattle.state_layout.specs.Layout.{phase_of, state_bytes, state_at, state_intact}
use Rattle.record_layout.specs.Layout.{record_bytes, record_at, record_intact}
use Rattle.next_layout.specs.Layout.{ending, next_parts, next_bytes}
use Rattle.host_boundary.specs.Boundary.{setup_plan, step_at}
use Rattle.controller_boundary.specs.Boundary.{identity_of, fresh_ok, fresh_bytes, command_at}
use Rattle.c_calls.specs.Calls.{Controller, after, captures_by, drops_by, judges_in, Program, kind_in, own, happens, happen, turn, turns, begins, program}
use Rattle.c_calls.specs.Record.{fresh_long, fresh_bytes_lem}
use Rattle.c_calls.specs.CDemand3.{CAsked}

-- a fresh record with extended data and telemetry, and a host store of a block
abbrev controller : Controller
controller = record { own = fresh_bytes 3 (identity_of 0 1 1); host = zeros 512; controller = [] }

-- a candidate of one block, and a buffer of a block
abbrev candidate : ℕ → Candidate
candidate n = candidate_of (1 ∷ 1 ∷ 1 ∷ 1 ∷ []) (replicate 512 n) (zeros 128)

abbrev loan : Loan
loan = record { candidate = candidate 7; buf = zeros 512 }

-- the first chunk; another host's create, with other bytes, and the closing header; the chunk once more; the closing header
abbrev moves : List (Turn (controller_source 7))
moves =
    record { events = []; lent = loan }
    ∷ record { events = Sent (record { cdw10 = 0x007F8107; cdw11 = 0; cdw12 = 0; cdw13 = 0; cdw14 = 0 }) (candidate 6) (zeros 512) ∷ []; lent = loan }
    ∷ record { events = []; lent = loan }
    ∷ record { events = []; lent = loan }
    ∷ []

-- `bumbazeel_setup` for area 1 of 07h with create, a block a command, two attempts, a copy of two blocks
abbrev last : Program
last = program (setup_plan 7 1 1 3 1 2 1024) (replicate 1024 9) controller loan moves

pub asked : CAsked 7 1 1 3 1 2 1024 (replicate 1024 9) controller loan moves 1
unfolding program turns turn happen happens own begins after captures_by drops_by judges_in step_at state_bytes state_at state_intact phase_of next_parts next_bytes command_at record_bytes record_at record_intact caps_of fresh_ok fresh_bytes setup_of setup_answer holds step_of decide_of refusal_of valid_state within_by in_reach fits_room area_answer completion_fits expected_of look_of look_by planned_seen plan_of planned_by answer_to seen_of check_of fault_of last_ok same_last generation_of move_of judge_by tests_of first_order match_order later_order turn_by turn_of act_of awaited_of words_by built_of taken phase_at copy_after touched put_at command_of answered command_answer agrees_with store_ok controller_ok identity_ok greatest_of field_bad last_after candidate_ok size_of blocks_of top_of trimmed_to trim_of before afterwards sent_of page_of page_bytes window_of header_of host_fields controller_fields fields_for fresh_of host_captured chunk_blocks most_chunks
asked = record {
  sends = refl;
  same_caps = refl;
  whole_copy = refl;
  long = fresh_long 3 (identity_of 0 1 1);
  bytes = fresh_bytes_lem 3 (identity_of 0 1 1);
  more = omega arith;
  changes = omega arith;
  spared = refl;
}

-- BUMBAZEEL_ENDED with answer 0 after five commands, as many as the bound allows; the copy is the other host's block, and then zeros
pub example : (kind_in last.next ≡ ending) × (get_or last.next 1 0 ≡ 0) × (value_at 8 24 last.next ≡ 5) × (last.copy ≡ replicate 512 6 ++ zeros 512)
    × (most_commands (setup_plan 7 1 1 3 1 2 1024) 1 (most_chunks (setup_plan 7 1 1 3 1 2 1024) last.headers) ≡ 5)
unfolding program turns turn happen happens own begins after captures_by drops_by judges_in step_at state_bytes state_at state_intact phase_of next_parts next_bytes command_at record_bytes record_at record_intact caps_of fresh_ok fresh_bytes setup_of setup_answer holds step_of decide_of refusal_of valid_state within_by in_reach fits_room area_answer completion_fits expected_of look_of look_by planned_seen plan_of planned_by answer_to seen_of check_of fault_of last_ok same_last generation_of move_of judge_by tests_of first_order match_order later_order turn_by turn_of act_of awaited_of words_by built_of taken phase_at copy_after touched put_at command_of answered command_answer agrees_with store_ok controller_ok identity_ok greatest_of field_bad last_after candidate_ok size_of blocks_of top_of trimmed_to trim_of before afterwards sent_of page_of page_bytes window_of header_of host_fields controller_fields fields_for fresh_of host_captured chunk_blocks most_chunks
example = (refl, refl, refl, refl, refl)
