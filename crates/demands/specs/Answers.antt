-- Document 01's table of answers, its column 'Given by', and document 02's refusals of a plan: the answers that each function gives, for all arguments.
-- Assumes nothing.
use Rattle.std.specs.Prelude.{ℕ, ◌≡◌, refl, List, [], ◌∷◌, Bool, true, false, not, ◌&&◌, ◌||◌, length, get_or, ltb, eqb}
use Rattle.std.proofs.Common.{sym, ◌∙◌, arith}
use Rattle.choices.specs.Choice.{pick_cases, first_that}
use Rattle.choices.specs.Tests.{holds, by_test, same_or_not, and_left}
use Rattle.answers.specs.Answers.{success, invalid_field, invalid_log_page, short_buffer, disagree, broken_candidate, no_area4, bad_header, no_room, attempts_used_up, withdrawn, nothing, broke_its_word, bad_setup, already_ended, does_not_fit, out_of_reach}
use Rattle.words.specs.declared.Command.{Command}
use Rattle.words.specs.declared.Words.{Words}
use Rattle.pages.specs.declared.Caps.{Caps}
use Rattle.pages.specs.Pages.{telemetry_page, last_of, size_of}
use Rattle.trimming.specs.Trimming.{top_of}
use Rattle.words.specs.Words.{Built}
use Rattle.words.specs.Words.{taken, built_of}
use Rattle.records.specs.declared.Record.{Record}
use Rattle.records.specs.Records.{agrees_with}
use Rattle.verdicts.specs.Verdicts.{command_order, candidate_ok, field_bad, last_after, command_answer, capture_answer}
use Rattle.verdicts.specs.declared.Lent.{Lent}
use Rattle.plans.specs.declared.Plan.{Plan}
use Rattle.phases.specs.Phases.{ended_by}
use Rattle.plans.specs.Plans.{plan_tests, without_area4, setup_answer}
use Rattle.completions.specs.declared.Seen.{Seen}
use Rattle.completions.specs.Plan.{plan_of}
use Rattle.completions.specs.Planned.{by_answer}
use Rattle.endings.specs.declared.Ending.{Ending}
use Rattle.endings.specs.declared.Ending.TheVariants.{Success, BadHeader, OutOfReach, NoRoom, UsedUp, Withdrawn, Nothing, BrokeItsWord}
use Rattle.judgement.specs.declared.Move.{Move}
use Rattle.judgement.specs.declared.Move.TheVariants.{End, Open, More, Skip, Acknowledge}
use Rattle.endings.specs.Endings.{number_of}
use Rattle.collection.specs.declared.Collection.{Collection}
use Rattle.refusals.specs.Refusals.{first_refusal}
use Rattle.collection.specs.Collection.{valid_state, completion_fits, refusal_of, look_of, move_of, setup_of, step_of, answer_of}
use Rattle.collection.specs.Steps.{makes, setup_taken, setup_refused, refused_step, taken_step}
use Rattle.controller.specs.Controller.{World, Candidate, lent_by, command_of, capture_answered, capture_of, drop_of}
use Rattle.controller.specs.Asked.{asked}
use Rattle.controller.proofs.Laws.{command_answer_lem}

-- a number is one of these
abbrev pub among : List ℕ → ℕ → Bool
among [] n = false
among (a ∷ rest) n = eqb n a || among rest n

-- ---- the controller side

-- what holds of each answer of the order holds of a command's, 5 being for a create alone
in_order : (P : ℕ → Type 0) (d u i create broken y s : Bool) → P success → P invalid_field → P invalid_log_page → P short_buffer → P disagree
    → (create ≡ true → P broken_candidate) → P (command_order d u i (create && broken) y s)
in_order P true u i create broken y s p0 p1 p2 p3 p4 p5 = p4
in_order P false true i create broken y s p0 p1 p2 p3 p4 p5 = p2
in_order P false false true create broken y s p0 p1 p2 p3 p4 p5 = p1
in_order P false false false create broken y s p0 p1 p2 p3 p4 p5 =
    pick_cases P (create && broken) (λ e. p5 (and_left create broken e))
    (λ e. pick_cases P y (λ f. p1) (λ f. pick_cases P s (λ g. p3) (λ g. p0)))

of_command : (P : ℕ → Type 0) (r : Record) (c : Command) (a : List ℕ) (lent : Lent)
    → P success → P invalid_field → P invalid_log_page → P short_buffer → P disagree → (c.create ≡ true → P broken_candidate) → P (command_answer r c a lent)
unfolding command_answer
of_command P r c a lent =
    in_order P (not (agrees_with r lent.host lent.controller)) (not (telemetry_page c.page && r.caps.telemetry)) (field_bad r.caps c) c.create
    (not (candidate_ok (last_of (top_of r.caps c.mcda) a) a lent.bytes lent.reason lent.host))
    (ltb (size_of r.caps (last_after r c a)) c.offset) (ltb lent.buf c.bytes)

-- a command
pub command_gives : (w : World) (candidate : Candidate) (words : Words) (buf : List ℕ)
    → among (success ∷ invalid_field ∷ invalid_log_page ∷ short_buffer ∷ disagree ∷ broken_candidate ∷ []) (command_of w candidate words buf).answer ≡ true
command_gives w candidate words buf =
    rw (command_answer_lem w candidate words buf)
    (of_command (λ (n : ℕ). among (success ∷ invalid_field ∷ invalid_log_page ∷ short_buffer ∷ disagree ∷ broken_candidate ∷ []) n ≡ true)
    w.own (asked w words) candidate.last (lent_by w candidate buf) refl refl refl refl refl (λ e. refl))

-- of which 5 is for a create alone
pub create_gives_5 : (w : World) (candidate : Candidate) (words : Words) (buf : List ℕ) → (command_of w candidate words buf).answer ≡ broken_candidate
    → (asked w words).create ≡ true
create_gives_5 w candidate words buf q =
    of_command (λ (n : ℕ). n ≡ broken_candidate → (asked w words).create ≡ true) w.own (asked w words) candidate.last (lent_by w candidate buf)
    (λ e. absurd (omega arith)) (λ e. absurd (omega arith)) (λ e. absurd (omega arith)) (λ e. absurd (omega arith)) (λ e. absurd (omega arith)) (λ c e. c)
    (sym (command_answer_lem w candidate words buf) ∙ q)

of_capture : (P : ℕ → Type 0) (r : Record) (a : List ℕ) (lent : Lent) → P success → P disagree → P broken_candidate → P (capture_answer r a lent)
unfolding capture_answer
of_capture P r a lent p0 p4 p5 =
    pick_cases P (not (agrees_with r lent.host lent.controller)) (λ e. p4)
    (λ e. pick_cases P (not (candidate_ok (last_of (top_of r.caps 0) a) a lent.bytes lent.reason lent.controller && ltb 0 (get_or a 2 0))) (λ f. p5) (λ f. p0))

-- a capture
pub capture_gives : (w : World) (candidate : Candidate) → among (success ∷ disagree ∷ broken_candidate ∷ []) (capture_of w candidate).answer ≡ true
unfolding capture_of capture_answered
capture_gives w candidate =
    by_test (eqb (capture_answer w.own candidate.last (lent_by w candidate [])) success)
    (λ e. rw e)
    (λ e. rw e
    (of_capture (λ (n : ℕ). among (success ∷ disagree ∷ broken_candidate ∷ []) n ≡ true) w.own candidate.last (lent_by w candidate []) refl refl refl))

-- a drop
pub drop_gives : (w : World) → among (success ∷ disagree ∷ []) (drop_of w).answer ≡ true
unfolding drop_of
drop_gives w = by_test (agrees_with w.own (length w.host) (length w.controller)) (λ e. rw e) (λ e. rw e)

-- ---- the host side

-- a plan from a header
pub planned_gives : (page area : ℕ) (caps : Caps) (chunk room : ℕ) (h : List ℕ)
    → among (success ∷ no_area4 ∷ bad_header ∷ no_room ∷ nothing ∷ bad_setup ∷ out_of_reach ∷ []) (plan_of page area caps chunk room h).answer ≡ true
planned_gives page area caps chunk room h =
    by_answer page area caps chunk room h (λ (n : ℕ). among (success ∷ no_area4 ∷ bad_header ∷ no_room ∷ nothing ∷ bad_setup ∷ out_of_reach ∷ []) n ≡ true)
    refl refl (λ e. refl) refl refl refl (λ e. refl)

-- the builder
pub builder_gives : (page : ℕ) (create : Bool) (mcda : ℕ) (rae : Bool) (offset blocks : ℕ)
    → among (success ∷ bad_setup ∷ []) (built_of page create mcda rae offset blocks).answer ≡ true
unfolding built_of
builder_gives page create mcda rae offset blocks =
    pick_cases (λ (b : Built). among (success ∷ bad_setup ∷ []) b.answer ≡ true) (taken page create mcda offset blocks) (λ e. refl) (λ e. refl)

plan_gives : (b a : Bool) → among (success ∷ no_area4 ∷ bad_setup ∷ []) (first_that ((b, bad_setup) ∷ (a, no_area4) ∷ []) success) ≡ true
plan_gives true a = refl
plan_gives false true = refl
plan_gives false false = refl

refused_gives : (p : Plan) → among (success ∷ no_area4 ∷ bad_setup ∷ []) (setup_answer p) ≡ true
unfolding setup_answer
refused_gives p = plan_gives (not (holds (plan_tests p))) (without_area4 p)

-- setup
pub setup_gives : (p : Plan) → among (success ∷ no_area4 ∷ bad_setup ∷ []) (answer_of (setup_of p).next) ≡ true
setup_gives p =
    same_or_not (setup_answer p) success
    (λ e. rw (setup_taken p e))
    (λ e. rw (setup_refused p e) (refused_gives p))

-- an ending
pub ending_gives : (e : Ending) → among (success ∷ bad_header ∷ no_room ∷ attempts_used_up ∷ withdrawn ∷ nothing ∷ broke_its_word ∷ out_of_reach ∷ []) (number_of e) ≡ true
ending_gives (Success unread) = refl
ending_gives (BadHeader fault) = refl
ending_gives OutOfReach = refl
ending_gives NoRoom = refl
ending_gives UsedUp = refl
ending_gives Withdrawn = refl
ending_gives Nothing = refl
ending_gives BrokeItsWord = refl

-- those of a step: an ending's and its refusals
abbrev pub step_answers : List ℕ
step_answers = success ∷ bad_header ∷ no_room ∷ attempts_used_up ∷ withdrawn ∷ nothing ∷ broke_its_word ∷ bad_setup ∷ already_ended ∷ does_not_fit ∷ out_of_reach ∷ []

ended_gives : (e : Ending) → among step_answers (number_of e) ≡ true
ended_gives (Success unread) = refl
ended_gives (BadHeader fault) = refl
ended_gives OutOfReach = refl
ended_gives NoRoom = refl
ended_gives UsedUp = refl
ended_gives Withdrawn = refl
ended_gives Nothing = refl
ended_gives BrokeItsWord = refl

move_gives : (s : Collection) (h : Seen) (m : Move) → among step_answers (answer_of (makes s h m).next) ≡ true
unfolding makes
move_gives s h (End e next) = ended_gives e
move_gives s h (Open next) = refl
move_gives s h (More at) = refl
move_gives s h Skip = refl
move_gives s h Acknowledge = refl

refusal_gives : (o v f : Bool) → among step_answers (first_refusal o v f) ≡ true
refusal_gives true v f = refl
refusal_gives false false f = refl
refusal_gives false true false = refl
refusal_gives false true true = refl

not_taken_gives : (s : Collection) (ok : Bool) (bytes copy : ℕ) → among step_answers (refusal_of s ok bytes copy) ≡ true
unfolding refusal_of
not_taken_gives s ok bytes copy = refusal_gives (ended_by s.phase) (valid_state s) (completion_fits s ok bytes copy)

-- a step, 0 being with a command too
pub step_gives : (s : Collection) (ok : Bool) (d : List ℕ) (n : ℕ) → among step_answers (answer_of (step_of s ok d n).next) ≡ true
step_gives s ok d n =
    same_or_not (refusal_of s ok (length d) n) success
    (λ r. rw (taken_step s ok d n r) (move_gives s (look_of s d) (move_of s ok (look_of s d))))
    (λ r. rw (refused_step s ok d n r) (not_taken_gives s ok (length d) n))
