-- Document 01, "Answer numbers", and document 02, Q-10 and Q-12: the eighteen answers, and the NVMe status of those that have one.
-- Assumes nothing.
use Rattle.std.specs.Prelude.{ℕ, ◌+◌, ◌*◌, Option, Some, None, Result, Ok, Err, eqb}
use Rattle.choices.specs.Choice.{pick}
use Rattle.answers.specs.declared.Status.{Status}
use Rattle.answers.specs.declared.Refusal.{Refusal}
use Rattle.answers.specs.declared.Refusal.TheVariants.{InvalidField, InvalidLogPage, ShortBuffer, Disagree, BrokenCandidate, NoArea4, NoRoom, Nothing, BadSetup, AlreadyEnded, DoesNotFit, OutOfReach, TotalFull}
use Rattle.answers.specs.Classes.{class_number}

-- ---- the answers

-- success
abbrev pub success : ℕ
success = 0

-- Invalid Field in Command
abbrev pub invalid_field : ℕ
invalid_field = 1

-- Invalid Log Page, with the identifier's class
abbrev pub invalid_log_page : ℕ
invalid_log_page = 2

-- transfer buffer shorter than the transfer
abbrev pub short_buffer : ℕ
short_buffer = 3

-- record and lent stores disagree
abbrev pub disagree : ℕ
disagree = 4

-- broken candidate
abbrev pub broken_candidate : ℕ
broken_candidate = 5

-- area 4 wanted without DA4S and ETDAS
abbrev pub no_area4 : ℕ
no_area4 = 6

-- bad header
abbrev pub bad_header : ℕ
bad_header = 7

-- wanted area larger than the copy
abbrev pub no_room : ℕ
no_room = 8

-- attempts used up
abbrev pub attempts_used_up : ℕ
attempts_used_up = 9

-- withdrawn: 08h header no longer shows TCDA 1
abbrev pub withdrawn : ℕ
withdrawn = 10

-- nothing: first 08h header shows TCDA 0
abbrev pub nothing : ℕ
nothing = 11

-- controller broke its word
abbrev pub broke_its_word : ℕ
broke_its_word = 12

-- bad setup or state, bad builder arguments
abbrev pub bad_setup : ℕ
bad_setup = 13

-- already ended
abbrev pub already_ended : ℕ
already_ended = 14

-- completion doesn't fit the awaited command
abbrev pub does_not_fit : ℕ
does_not_fit = 15

-- wanted area past block 31, which no command without extended data reaches
abbrev pub out_of_reach : ℕ
out_of_reach = 19

-- a total of a sheet would pass 18,446,744,073,709,551,615
abbrev pub total_full : ℕ
total_full = 20

-- ---- refusals

-- the paper's number of a refusal
abbrev pub refusal_number : Refusal → ℕ
refusal_number InvalidField = invalid_field
refusal_number (InvalidLogPage class) = invalid_log_page
refusal_number ShortBuffer = short_buffer
refusal_number Disagree = disagree
refusal_number BrokenCandidate = broken_candidate
refusal_number NoArea4 = no_area4
refusal_number NoRoom = no_room
refusal_number Nothing = nothing
refusal_number BadSetup = bad_setup
refusal_number AlreadyEnded = already_ended
refusal_number DoesNotFit = does_not_fit
refusal_number OutOfReach = out_of_reach
refusal_number TotalFull = total_full

-- the number of the class that a refusal comes with: 0 with any but an invalid log page
abbrev pub class_told : Refusal → ℕ
class_told InvalidField = 0
class_told (InvalidLogPage class) = class_number class
class_told ShortBuffer = 0
class_told Disagree = 0
class_told BrokenCandidate = 0
class_told NoArea4 = 0
class_told NoRoom = 0
class_told Nothing = 0
class_told BadSetup = 0
class_told AlreadyEnded = 0
class_told DoesNotFit = 0
class_told OutOfReach = 0
class_told TotalFull = 0

-- the paper's number of an answer: 0 with what was asked for, else its refusal's
abbrev pub result_number : {A : Type 0} → Result A Refusal → ℕ
result_number (Ok x) = success
result_number (Err r) = refusal_number r

-- ---- their statuses

-- status code type 0h
abbrev pub generic : ℕ
generic = 0x0

-- status code type 1h
abbrev pub command_specific : ℕ
command_specific = 0x1

-- the status with this status code type and status code
abbrev pub nvme_status : ℕ → ℕ → Option Status
nvme_status type code = Some (record { sct = type; sc = code })

-- none: the answer refuses the call itself
abbrev pub no_status : Option Status
no_status = None

-- the status of an answer: generic 00h, generic 02h, command specific 09h, and none from answer 3 on
abbrev pub status_of : ℕ → Option Status
status_of answer =
    pick (eqb answer success) (nvme_status generic 0x00)
    (pick (eqb answer invalid_field) (nvme_status generic 0x02)
    (pick (eqb answer invalid_log_page) (nvme_status command_specific 0x09)
    no_status))

-- the number of an answer that has no NVMe status
abbrev pub no_number : ℕ
no_number = 0xFFFF

-- a status as one number, type * 256 + code
abbrev pub status_number : Option Status → ℕ
status_number (Some s) = 256 * s.sct + s.sc
status_number None = no_number
