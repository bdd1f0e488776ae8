-- Two runs of 07h with many captures of the same areas: 256 in one attempt, and 150 in each of two. The captures are not computed one by one: a law says what n
-- of them leave, and what comes before and after them is computed.
-- Assumes nothing.
use Rattle.std.specs.Prelude.{ℕ, zero, suc, ◌+◌, ◌%◌, ◌<◌, ◌≡◌, refl, List, [], ◌∷◌, ◌++◌, false, replicate}
use Rattle.std.proofs.Common.{sym, ap, subst, ◌∙◌, arith}
use Rattle.choices.specs.Tests.{holds}
use Rattle.copies.specs.Parts.{zeros, put_at}
use Rattle.lastblocks.specs.LastBlocks.{last_ok, same_last, greatest_of}
use Rattle.pages.specs.Pages.{blocks_of, size_of}
use Rattle.trimming.specs.Trimming.{top_of, trimmed_to, trim_of}
use Rattle.words.specs.Words.{taken, built_of}
use Rattle.words.specs.declared.Words.{Words}
use Rattle.header.specs.Header.{header_of, fault_of, check_of}
use Rattle.records.specs.Records.{identity_ok, store_ok, controller_ok, agrees_with, host_fields, controller_fields, fields_for}
use Rattle.serving.specs.Serving.{window_of, page_bytes}
use Rattle.verdicts.specs.Verdicts.{candidate_ok, field_bad, last_after, command_answer}
use Rattle.phases.specs.Asked.{chunk_blocks, within_by, phase_at, words_by}
use Rattle.plans.specs.Plans.{setup_answer, in_reach, fits_room, area_answer}
use Rattle.completions.specs.Plan.{answer_to, planned_by, plan_of}
use Rattle.completions.specs.Completions.{look_by, planned_seen, seen_of, generation_of}
use Rattle.endings.specs.declared.Ending.TheVariants.{Success}
use Rattle.judgement.specs.Judgement.{judge_by, tests_of, first_order, match_order, later_order}
use Rattle.turns.specs.Turns.{turn_of}
use Rattle.touches.specs.Touched.{touched}
use Rattle.collection.specs.Collection.{setup_of, step_of, decide_of, refusal_of, valid_state, completion_fits, expected_of, look_of, move_of, turn_by, act_of as moved, awaited_of, copy_after}
use Rattle.collection.specs.Told.{Next}
use Rattle.collection.specs.declared.Next.TheVariants.{Send}
use Rattle.controller.specs.Controller.{World, command_of, answered, before, afterwards, sent_of, page_of, host_captured}
use Rattle.runs.specs.Run.{most_chunks}
use Rattle.sources.specs.Source.{Source, ours, Turn, Stand, happens, happen, hears, sends, turn_by as turnOn, run, begun, collected}
use Rattle.demand3.specs.Bench.{Event, Sent, act_of, captures_of, drops_of, own_of, controller_source}
use Rattle.demand3.specs.Shown.{wanted_area}
use Rattle.demand3.specs.Demand3.{final}
use Rattle.worked_runs.specs.Scene.{block_of, small_drive_of, small_drive, newer, create_words, lent_of, stale, quiet, small_plan}
use Rattle.worked_runs.specs.Computed.{small_run, two, Came, ends_with, new}

abbrev D : Source
D = controller_source 7

-- ---- n captures

-- another host's create of two blocks
abbrev create : Event
create = Sent create_words newer (stale 512)

-- 07h after such a create, at a generation
abbrev made : ℕ → World
made generation = small_drive_of two generation (zeros 128) new

-- a stand with another source, with so many captures and changes, the most captures in an attempt, and no drop
abbrev standing : Stand D → World → (captures changes most : ℕ) → Stand D
standing s w captures changes most = record {
  collection = s.collection;
  said = s.said;
  copy = s.copy;
  source = w;
  sent = s.sent;
  headers = s.headers;
  checked = s.checked;
  counts = record { captures = captures; drops = 0; changes = changes; most_in_attempt = most; lent_refusals = 0 };
}

-- w is at generation g and takes the create, which leaves the same page whatever stood there, at the next generation
abbrev At : World → ℕ → Type 0
At w g = (s : Stand D) (a b m : ℕ) → happens D create (standing s w a b m) ≡ standing s (made ((g + 1) % 256)) (a + 1) (b + 1 + 0) m

small_at : At (small_drive two) 9
unfolding happens act_of captures_of drops_of command_of answered command_answer agrees_with store_ok controller_ok identity_ok greatest_of last_ok holds field_bad last_after candidate_ok size_of blocks_of top_of trimmed_to trim_of before afterwards host_captured put_at
small_at s a b m = refl

made_at : (g : ℕ) → At (made g) g
unfolding happens act_of captures_of drops_of command_of answered command_answer agrees_with store_ok controller_ok identity_ok greatest_of last_ok holds field_bad last_after candidate_ok size_of blocks_of top_of trimmed_to trim_of before afterwards host_captured put_at
made_at g s a b m = refl

stands_are : (s : Stand D) (m : ℕ) {g h a b c d : ℕ} → g ≡ h → a ≡ b → c ≡ d → standing s (made g) a c m ≡ standing s (made h) b d m
stands_are s m e f g = rw (e, f, g)

-- n + 1 captures move the generation on by as many, 255 being followed by 0
n_captures : (n : ℕ) (w : World) (g : ℕ) → At w g → g < 256 → (s : Stand D) (a b m : ℕ)
    → happen D (replicate (suc n) create) (standing s w a b m) ≡ standing s (made ((g + suc n) % 256)) (a + suc n) (b + suc n) m
unfolding happen
n_captures zero w g at low s a b m = at s a b m ∙ stands_are s m refl refl (omega arith)
n_captures (suc n) w g at low s a b m =
    ap (happen D (replicate (suc n) create)) (at s a b m)
    ∙ n_captures n (made ((g + 1) % 256)) ((g + 1) % 256) (made_at ((g + 1) % 256)) (omega arith) s (a + 1) (b + 1 + 0) m
    ∙ stands_are s m (omega arith) (omega arith) (omega arith)

-- ---- runs

-- captures, and then a command
abbrev capturing : ℕ → Turn D
capturing n = record { events = replicate n create; lent = lent_of 1024 }

-- after them the command x is sent, and the run goes on
after_captures : (n : ℕ) (w : World) (g : ℕ) → At w g → g < 256 → (s : Stand D) (b m : ℕ) (x : Words) → s ≡ standing s w 0 b m → s.said ≡ Send x → (ts : List (Turn D))
    → run ours D (capturing (suc n) ∷ ts) s ≡ run ours D ts (sends ours D x (lent_of 1024) (standing s (made ((g + suc n) % 256)) (suc n) (b + suc n) m))
unfolding run
after_captures n w g at low s b m x e q ts =
    ap (λ (y : Next). run ours D ts (turnOn ours D y (capturing (suc n)) s)) q
    ∙ ap (λ (z : Stand D). run ours D ts (sends ours D x (lent_of 1024) z))
    (ap (happen D (replicate (suc n) create)) e ∙ n_captures n w g at low s 0 b m ∙ stands_are s m refl (omega arith) refl)

-- a run goes on where it stands
run_on : (ts us : List (Turn D)) (s : Stand D) → run ours D (ts ++ us) s ≡ run ours D us (run ours D ts s)
unfolding run
run_on [] us s = refl
run_on (t ∷ ts) us s = run_on ts us (turnOn ours D s.said t s)

-- with 301 attempts
abbrev pub soak : List (Turn D) → Stand D
soak = small_run ours 3 1 301 two

-- 256 captures between two chunks, and then the closing header
abbrev pub round : List (Turn D)
round = quiet 7 1024 1 ++ (capturing 256 ∷ quiet 7 1024 1)

-- 150 captures in one attempt, 150 in the next one, and none in the third
abbrev pub spread : List (Turn D)
spread = quiet 7 1024 1 ++ (capturing 150 ∷ (quiet 7 1024 3 ++ (capturing 150 ∷ quiet 7 1024 3)))

-- after the first header and the first chunk, where the second chunk is awaited
abbrev begins : Stand D
begins = soak (quiet 7 1024 1)

abbrev second : Words
second = record { cdw10 = 0x007F8007; cdw11 = 0; cdw12 = 1024; cdw13 = 0; cdw14 = 0 }

-- after so many captures there, the second chunk and n commands more
abbrev goes_on : ℕ → ℕ → Stand D
goes_on captures n = run ours D (quiet 7 1024 n) (sends ours D second (lent_of 1024) (standing begins (made ((9 + captures) % 256)) captures captures 0))

abbrev closing : Words
closing = record { cdw10 = 0x007F8007; cdw11 = 0; cdw12 = 0; cdw13 = 0; cdw14 = 0 }

-- after 150 captures there and 150 in the next attempt, before its closing header, up to the ending
abbrev ends : Stand D
ends = run ours D (quiet 7 1024 3) (sends ours D closing (lent_of 1024) (standing (goes_on 150 3) (made 53) 150 300 150))

-- the copy begins as the page before the captures and goes on as the one after them
abbrev pub stitched : List ℕ
stitched = block_of 1 ++ block_of 8

-- what is computed
record Parts : Type 0 where
  pub begun : begins ≡ standing begins (small_drive two) 0 0 0
  pub begun_awaits : begins.said ≡ Send second
  pub rounded : Came (small_plan 3 1 301) (goes_on 256 1) (ends_with (Success false) 4) stitched new 256 0 4 2
  pub rounded_most : (goes_on 256 1).counts.most_in_attempt ≡ 256
  pub again : goes_on 150 3 ≡ standing (goes_on 150 3) (made 159) 0 150 150
  pub again_awaits : (goes_on 150 3).said ≡ Send closing
  pub ended : Came (small_plan 3 1 301) ends (ends_with (Success false) 10) new new 300 0 10 2
  pub ended_most : ends.counts.most_in_attempt ≡ 150

parts : Parts
unfolding chunk_blocks final collected run happen happens hears begun setup_of setup_answer holds step_of decide_of refusal_of valid_state within_by in_reach fits_room area_answer completion_fits expected_of look_of look_by planned_seen plan_of planned_by answer_to seen_of check_of fault_of last_ok same_last generation_of move_of judge_by tests_of first_order match_order later_order turn_by turn_of moved awaited_of words_by built_of taken phase_at copy_after touched put_at command_of answered command_answer agrees_with store_ok controller_ok identity_ok greatest_of field_bad last_after candidate_ok size_of blocks_of top_of trimmed_to trim_of before afterwards sent_of page_of page_bytes window_of header_of host_fields controller_fields fields_for host_captured own_of act_of captures_of drops_of quiet wanted_area most_chunks
parts = record {
  begun = refl;
  begun_awaits = refl;
  rounded = record { said_is = refl; copy_is = refl; area_is = refl; changes_are = refl; refused_are = refl; sent_are = refl; chunks_are = refl };
  rounded_most = refl;
  again = refl;
  again_awaits = refl;
  ended = record { said_is = refl; copy_is = refl; area_is = refl; changes_are = refl; refused_are = refl; sent_are = refl; chunks_are = refl };
  ended_most = refl;
}

-- captures after the first chunk
first_captures : (n : ℕ) (ts : List (Turn D))
    → soak (quiet 7 1024 1 ++ (capturing (suc n) ∷ ts)) ≡ run ours D ts (sends ours D second (lent_of 1024) (standing begins (made ((9 + suc n) % 256)) (suc n) (suc n) 0))
unfolding final collected
first_captures n ts =
    run_on (quiet 7 1024 1) (capturing (suc n) ∷ ts) _
    ∙ after_captures n (small_drive two) 9 small_at (omega arith) begins 0 0 second parts.begun parts.begun_awaits ts
    ∙ ap (λ (z : Stand D). run ours D ts (sends ours D second (lent_of 1024) z)) (stands_are begins 0 refl refl (omega arith))

round_is : soak round ≡ goes_on 256 1
round_is = first_captures 255 (quiet 7 1024 1)

spread_is : soak spread ≡ ends
spread_is =
    first_captures 149 (quiet 7 1024 3 ++ (capturing 150 ∷ quiet 7 1024 3))
    ∙ run_on (quiet 7 1024 3) (capturing 150 ∷ quiet 7 1024 3) _
    ∙ after_captures 149 (made 159) 159 (made_at 159) (omega arith) (goes_on 150 3) 150 150 closing parts.again parts.again_awaits (quiet 7 1024 3)

-- a success with four commands, though the area at the last check is another one
pub round_came : Came (small_plan 3 1 301) (soak round) (ends_with (Success false) 4) stitched new 256 0 4 2
round_came = subst (λ (s : Stand D). Came (small_plan 3 1 301) s (ends_with (Success false) 4) stitched new 256 0 4 2) (sym round_is) parts.rounded

pub round_most : (soak round).counts.most_in_attempt ≡ 256
round_most = ap (λ (s : Stand D). s.counts.most_in_attempt) round_is ∙ parts.rounded_most

-- a success with ten commands in the third attempt, with the area at the last check
pub spread_came : Came (small_plan 3 1 301) (soak spread) (ends_with (Success false) 10) new new 300 0 10 2
spread_came = subst (λ (s : Stand D). Came (small_plan 3 1 301) s (ends_with (Success false) 10) new new 300 0 10 2) (sym spread_is) parts.ended

pub spread_most : (soak spread).counts.most_in_attempt ≡ 150
spread_most = ap (λ (s : Stand D). s.counts.most_in_attempt) spread_is ∙ parts.ended_most
