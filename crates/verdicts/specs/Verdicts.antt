-- Document 01, "Answer numbers" and "Captures": the order of refusals, and when a candidate is broken.
-- Assumes nothing.
use Rattle.std.specs.Prelude.{ℕ, ◌*◌, ◌%◌, List, [], ◌∷◌, Result, Ok, Err, Bool, not, ◌&&◌, ◌||◌, get_or, ltb, leb, eqb}
use Rattle.choices.specs.Choice.{pick, first_that}
use Rattle.choices.specs.Tests.{holds}
use Rattle.answers.specs.Answers.{success, invalid_field, invalid_log_page, short_buffer, disagree, broken_candidate, class_told}
use Rattle.answers.specs.Classes.{class_of}
use Rattle.answers.specs.declared.Refusal.{Refusal}
use Rattle.pages.specs.declared.Caps.{Caps}
use Rattle.pages.specs.Pages.{telemetry_page, block, most3, most4, last_of, size_of, per_page}
use Rattle.trimming.specs.Trimming.{top_of, trim_of}
use Rattle.words.specs.declared.Command.{Command}
use Rattle.records.specs.declared.Record.{Record}
use Rattle.records.specs.Records.{agrees_with}
use Rattle.verdicts.specs.declared.Lent.{Lent}

-- ---- the order of refusals

-- for a command: 4; 2; then 1; then 5; then 1 for an offset greater than the size; then 3
abbrev pub command_order : Bool → Bool → Bool → Bool → Bool → Bool → ℕ
command_order disagrees unserved invalid broken beyond short =
    first_that
    ((disagrees, disagree)
    ∷ (unserved, invalid_log_page)
    ∷ (invalid, invalid_field)
    ∷ (broken, broken_candidate)
    ∷ (beyond, invalid_field)
    ∷ (short, short_buffer)
    ∷ [])
    success

-- ---- their tests

-- a candidate that is not broken: a1 ≤ a2 ≤ a3 ≤ a4, exactly 512·a4 bytes and a reason of 128; a3 is within its limit, a4 > 0 asks for
-- a3 > 0, and the last block kept is within the limit of area 4 and the store
unfoldable pub candidate_ok : ℕ → List ℕ → ℕ → ℕ → ℕ → Bool
candidate_ok kept a bytes reason store =
    holds
    ((leb (get_or a 0 0) (get_or a 1 0) && leb (get_or a 1 0) (get_or a 2 0) && leb (get_or a 2 0) (get_or a 3 0))
    ∷ eqb bytes (block * get_or a 3 0)
    ∷ eqb reason 128
    ∷ leb (get_or a 2 0) most3
    ∷ (eqb (get_or a 3 0) 0 || ltb 0 (get_or a 2 0))
    ∷ leb kept most4
    ∷ leb (block * kept) store
    ∷ [])

-- offset type 1, a length not a multiple of 512, a nonzero offset without extended data, an offset not a multiple of 512,
-- MCDA 5 to 7 with create on 07h and MCDAS 1
unfoldable pub field_bad : Caps → Command → Bool
field_bad caps c =
    c.indexed
    || not (eqb (c.bytes % block) 0)
    || not caps.extended && not (eqb c.offset 0)
    || not (eqb (c.offset % block) 0)
    || c.create && caps.mcdas && leb 5 c.mcda

-- the last blocks of the page asked for, after the command's capture if it makes one
unfoldable pub last_after : Record → Command → List ℕ → List ℕ
last_after r c a = per_page c.page (pick c.create (trim_of r.caps c.mcda a) r.host.last) r.controller.last

-- ---- the answers

-- to a command with the candidate's last blocks a
unfoldable pub command_answer : Record → Command → List ℕ → Lent → ℕ
command_answer r c a lent =
    command_order (not (agrees_with r lent.host lent.controller)) (not (telemetry_page c.page && r.caps.telemetry)) (field_bad r.caps c)
    (c.create && not (candidate_ok (last_of (top_of r.caps c.mcda) a) a lent.bytes lent.reason lent.host))
    (ltb (size_of r.caps (last_after r c a)) c.offset) (ltb lent.buf c.bytes)

-- to a capture on 08h: 4, then 5, a candidate with a3 = 0 being broken there
unfoldable pub capture_answer : Record → List ℕ → Lent → ℕ
capture_answer r a lent =
    first_that
    ((not (agrees_with r lent.host lent.controller), disagree)
    ∷ (not (candidate_ok (last_of (top_of r.caps 0) a) a lent.bytes lent.reason lent.controller && ltb 0 (get_or a 2 0)), broken_candidate)
    ∷ [])
    success

-- ---- the class with an answer

-- the class comes with answer 2 alone
abbrev pub class_for : ℕ → ℕ → ℕ
class_for answer page = pick (eqb answer invalid_log_page) (class_of page) 0

-- the class that the code gives with an answer: its refusal's, and 0 without one
abbrev pub class_in : {A : Type 0} → Result A Refusal → ℕ
class_in (Ok x) = 0
class_in (Err r) = class_told r
