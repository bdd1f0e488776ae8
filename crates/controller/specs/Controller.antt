-- What a command, a capture and a drop do: document 01, "Captures" and "Answer numbers", and document 02, Q-1. A world is a record with both
-- stores.
-- Assumes nothing.
use Rattle.std.specs.Prelude.{ℕ, List, [], ◌++◌, Result, Ok, Err, Bool, not, ◌&&◌, length, drop, eqb}
use Rattle.choices.specs.Choice.{pick}
use Rattle.answers.specs.Answers.{success, disagree, result_number}
use Rattle.answers.specs.declared.Refusal.{Refusal}
use Rattle.pages.specs.Pages.{controller_page, last_of, per_page}
use Rattle.trimming.specs.Trimming.{top_of, trim_of}
use Rattle.words.specs.declared.Command.{Command}
use Rattle.words.specs.declared.Words.{Words}
use Rattle.words.specs.Words.{read_of}
use Rattle.header.specs.Header.{header_of}
use Rattle.records.specs.declared.Record.{Record}
use Rattle.records.specs.Records.{fields_for, blocks_for, agrees_with}
use Rattle.serving.specs.Serving.{page_bytes, window_of}
use Rattle.captures.specs.Captures.{kept_in, reason_of, host_taken, controller_taken, cleared_of, dropped_of}
use Rattle.verdicts.specs.declared.Lent.{Lent}
use Rattle.verdicts.specs.Verdicts.{command_answer, capture_answer, class_for, class_in}

-- ---- what a command is lent

-- a controller's record and its two stores
pub record World : Type 0 where
  pub own : Record
  pub host : List ℕ
  pub controller : List ℕ

abbrev pub world : Record → List ℕ → List ℕ → World
world r h c = record { own = r; host = h; controller = c }

-- four last blocks, bytes and a reason
pub record Candidate : Type 0 where
  pub last : List ℕ
  pub bytes : List ℕ
  pub reason : List ℕ

abbrev pub candidate_of : List ℕ → List ℕ → List ℕ → Candidate
candidate_of last bytes reason = record { last = last; bytes = bytes; reason = reason }

-- ---- the page

abbrev pub store_for : ℕ → World → List ℕ
store_for page w = per_page page w.host w.controller

-- the header, then the store's blocks
unfoldable pub page_of : ℕ → World → List ℕ
page_of page w =
    page_bytes (header_of (fields_for page w.own)) (store_for page w) (blocks_for page w.own)

-- ---- captures and the acknowledgement

-- the record and the host store after a command's own capture, if it makes one
abbrev pub record_made : Record → Command → List ℕ → List ℕ → Record
record_made r c last reason = pick c.create (host_taken r (trim_of r.caps c.mcda last) (reason_of reason)) r

abbrev pub store_made : Record → Command → List ℕ → List ℕ → List ℕ → List ℕ
store_made r c last bytes store = pick c.create (kept_in store bytes (last_of (top_of r.caps c.mcda) last)) store

-- a host capture under an MCDA
unfoldable pub host_captured : World → Candidate → ℕ → World
host_captured w candidate mcda =
    world (host_taken w.own (trim_of w.own.caps mcda candidate.last) candidate.reason)
    (kept_in w.host candidate.bytes (last_of (top_of w.own.caps mcda) candidate.last))
    w.controller

-- a capture on 08h, which has no MCDA
unfoldable pub controller_captured : World → Candidate → World
controller_captured w candidate =
    world (controller_taken w.own (trim_of w.own.caps 0 candidate.last) candidate.reason) w.host
    (kept_in w.controller candidate.bytes (last_of (top_of w.own.caps 0) candidate.last))

-- ---- a command

-- what a command leaves: its answer, the class with it, the world and the buffer
pub record Outcome : Type 0 where
  pub answer : ℕ
  pub class : ℕ
  pub world : World
  pub buf : List ℕ

abbrev pub outcome : ℕ → ℕ → World → List ℕ → Outcome
outcome answer class w buf = record { answer = answer; class = class; world = w; buf = buf }

abbrev pub lent_by : World → Candidate → List ℕ → Lent
lent_by w candidate buf =
    record { host = length w.host; controller = length w.controller; bytes = length candidate.bytes; reason = length candidate.reason; buf = length buf }

-- a create captures before the transfer
unfoldable pub before : World → Candidate → Command → World
before w candidate c = pick c.create (host_captured w candidate c.mcda) w

-- the page's bytes from the offset, zeros past its end; the buffer beyond the transfer stays
unfoldable pub sent_of : World → Command → List ℕ → List ℕ
sent_of w c buf = window_of c.offset c.bytes (page_of c.page w) ++ drop c.bytes buf

-- on 08h RAE 0 acknowledges
abbrev pub acknowledges : Command → Bool
acknowledges c = eqb c.page controller_page && not c.rae

abbrev pub cleared : World → World
cleared w = world (cleared_of w.own) w.host w.controller

-- which clears after the transfer
unfoldable pub afterwards : World → Command → World
afterwards w c = pick (acknowledges c) (cleared w) w

-- what an answer does: success captures, transfers and acknowledges, and anything else changes nothing
unfoldable pub answered : World → Candidate → Command → List ℕ → ℕ → Outcome
answered w candidate c buf answer =
    pick (eqb answer success)
    (outcome success 0 (afterwards (before w candidate c) c) (sent_of (before w candidate c) c buf))
    (outcome answer (class_for answer c.page) w buf)

-- what the words say, judged and done
unfoldable pub command_of : World → Candidate → Words → List ℕ → Outcome
command_of w candidate words buf =
    answered w candidate (read_of w.own.caps.extended words) buf
    (command_answer w.own (read_of w.own.caps.extended words) candidate.last (lent_by w candidate buf))

-- ---- a capture on 08h

unfoldable pub capture_answered : World → Candidate → ℕ → Outcome
capture_answered w candidate answer = pick (eqb answer success) (outcome success 0 (controller_captured w candidate) []) (outcome answer 0 w [])

unfoldable pub capture_of : World → Candidate → Outcome
capture_of w candidate = capture_answered w candidate (capture_answer w.own candidate.last (lent_by w candidate []))

-- ---- a drop of the host's data

-- the world after it
abbrev pub host_dropped : World → World
host_dropped w = world (dropped_of w.own) w.host w.controller

-- 4 and nothing changed, or 0
unfoldable pub drop_of : World → Outcome
drop_of w = pick (agrees_with w.own (length w.host) (length w.controller)) (outcome success 0 (host_dropped w) []) (outcome disagree 0 w [])

-- ---- what the code gives

-- the record after it: the one that a success gives, and with a refusal the one that was lent
abbrev pub record_left : Record → Result Record Refusal → Record
record_left lent (Ok after) = after
record_left lent (Err refusal) = lent

-- an answer, the class with it, and the record afterwards
pub record Answered : Type 0 where
  pub answer : ℕ
  pub class : ℕ
  pub own : Record

-- as which a result is seen
abbrev pub answered_by : Record → Result Record Refusal → Answered
answered_by lent r = record { answer = result_number r; class = class_in r; own = record_left lent r }
