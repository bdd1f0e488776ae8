-- What the controller's functions of include/bumbazeel.h answer and leave in the bytes that they are lent: the definitions of the crates
-- below, on what the bytes say. A record's bytes that are damaged are refused before anything else, with 4.
-- Assumes nothing.
use Rattle.std.specs.Prelude.{ℕ, List, Bool, ◌&&◌, get_or, leb, eqb}
use Rattle.choices.specs.Choice.{pick}
use Rattle.copies.specs.Parts.{zeros}
use Rattle.answers.specs.Answers.{success, disagree}
use Rattle.words.specs.declared.Words.{Words}
use Rattle.records.specs.declared.Identity.{Identity}
use Rattle.records.specs.declared.Record.{Record}
use Rattle.records.specs.Records.{identity_ok, fresh_of}
use Rattle.controller.specs.Controller.{Candidate, world, Outcome, command_of, capture_of, drop_of}
use Rattle.shared_layouts.specs.Layouts.{most_caps, caps_of}
use Rattle.record_layout.specs.Layout.{record_bytes, record_at, record_intact}

-- the five words of an array
abbrev pub words_of : List ℕ → Words
words_of l = record { cdw10 = get_or l 0 0; cdw11 = get_or l 1 0; cdw12 = get_or l 2 0; cdw13 = get_or l 3 0; cdw14 = get_or l 4 0 }

-- the identity that the arguments say
abbrev pub identity_of : ℕ → ℕ → ℕ → Identity
identity_of oui hostscope controllerscope = record { oui = oui; hostscope = hostscope; controllerscope = controllerscope }

-- capabilities and an identity that a controller has
unfoldable pub fresh_ok : ℕ → Identity → Bool
fresh_ok caps identity = leb caps most_caps && identity_ok identity

-- a fresh record's bytes, or zeros
unfoldable pub fresh_bytes : ℕ → Identity → List ℕ
fresh_bytes caps identity = pick (fresh_ok caps identity) (record_bytes (fresh_of (caps_of caps) identity)) (zeros 300)

-- a refusal leaves the record's bytes as they were
abbrev pub record_after : List ℕ → ℕ → Record → List ℕ
record_after r answer after = pick (eqb answer success) (record_bytes after) r

-- what a command leaves: answer, class, the record's bytes, host store and buffer
pub record CommandAnswer : Type 0 where
  pub answer : ℕ
  pub class : ℕ
  pub own : List ℕ
  pub host : List ℕ
  pub buf : List ℕ

abbrev pub command_answer : ℕ → ℕ → List ℕ → List ℕ → List ℕ → CommandAnswer
command_answer answer class own host buf = record { answer = answer; class = class; own = own; host = host; buf = buf }

-- what a command's outcome leaves of a record's bytes
abbrev pub command_answer_of : List ℕ → Outcome → CommandAnswer
command_answer_of r o = command_answer o.answer o.class (record_after r o.answer o.world.own) o.world.host o.buf

-- a command on a record's bytes, host store h and controller store k
unfoldable pub command_at : List ℕ → List ℕ → List ℕ → Candidate → Words → List ℕ → CommandAnswer
command_at r h k candidate words buf =
    pick (record_intact r)
    (command_answer_of r (command_of (world (record_at r) h k) candidate words buf))
    (command_answer disagree 0 r h buf)

-- what a capture leaves: answer, the record's bytes and controller store
pub record CaptureAnswer : Type 0 where
  pub answer : ℕ
  pub own : List ℕ
  pub controller : List ℕ

abbrev pub capture_answer : ℕ → List ℕ → List ℕ → CaptureAnswer
capture_answer answer own controller = record { answer = answer; own = own; controller = controller }

-- what a capture's outcome leaves of a record's bytes
abbrev pub capture_answer_of : List ℕ → Outcome → CaptureAnswer
capture_answer_of r o = capture_answer o.answer (record_after r o.answer o.world.own) o.world.controller

-- a capture on a record's bytes, host store h and controller store k
unfoldable pub capture_at : List ℕ → List ℕ → List ℕ → Candidate → CaptureAnswer
capture_at r h k candidate =
    pick (record_intact r)
    (capture_answer_of r (capture_of (world (record_at r) h k) candidate))
    (capture_answer disagree r k)

-- what a drop leaves: answer and the record's bytes
pub record DropAnswer : Type 0 where
  pub answer : ℕ
  pub own : List ℕ

abbrev pub drop_answer : ℕ → List ℕ → DropAnswer
drop_answer answer own = record { answer = answer; own = own }

-- what a drop's outcome leaves of a record's bytes
abbrev pub drop_answer_of : List ℕ → Outcome → DropAnswer
drop_answer_of r o = drop_answer o.answer (record_after r o.answer o.world.own)

-- a drop on a record's bytes, host store h and controller store k
unfoldable pub drop_at : List ℕ → List ℕ → List ℕ → DropAnswer
drop_at r h k = pick (record_intact r) (drop_answer_of r (drop_of (world (record_at r) h k))) (drop_answer disagree r)
