-- The controller as a source: what a collection's commands are answered, what may happen between them, and what counts as a capture and as a drop.
-- Assumes nothing.
use Rattle.std.specs.Prelude.{ℕ, List, ◌&&◌, take, eqb}
use Rattle.choices.specs.Choice.{one}
use Rattle.answers.specs.Answers.{success}
use Rattle.pages.specs.Pages.{host_page, controller_page}
use Rattle.words.specs.declared.Words.{Words}
use Rattle.controller.specs.Controller.{World, Candidate, command_of, capture_of, drop_of}
use Rattle.controller.specs.Asked.{asked}
use Rattle.sources.specs.Source.{Source, Done}

-- what may happen: a command of any host, of any words, with any candidate and any buffer; a capture on 08h with any candidate; or a drop, as a
-- Firmware Commit or power on makes it
pub data Event : Type 0 where
  Sent : Words → Candidate → List ℕ → Event
  Taken : Candidate → Event
  Dropped : Event

-- what a command of the collection is lent
pub record Loan : Type 0 where
  pub candidate : Candidate
  pub buf : List ℕ

unfoldable pub act_of : Event → World → World
act_of (Sent words candidate buf) w = (command_of w candidate words buf).world
act_of (Taken candidate) w = (capture_of w candidate).world
act_of Dropped w = (drop_of w).world

-- a capture of 07h is a create that succeeds, and one of 08h a capture that does
unfoldable pub captures_of : ℕ → Event → World → ℕ
captures_of page (Sent words candidate buf) w = one (eqb page host_page && (asked w words).create && eqb (command_of w candidate words buf).answer success)
captures_of page (Taken candidate) w = one (eqb page controller_page && eqb (capture_of w candidate).answer success)
captures_of page Dropped w = 0

-- a drop of 07h is one that succeeds, and 08h has none
unfoldable pub drops_of : ℕ → Event → World → ℕ
drops_of page (Sent words candidate buf) w = 0
drops_of page (Taken candidate) w = 0
drops_of page Dropped w = one (eqb page host_page && eqb (drop_of w).answer success)

-- the bytes transferred are as many as the words ask for, at the front of the buffer
unfoldable pub own_of : Loan → Words → World → Done World
own_of l words w = record {
  answer = (command_of w l.candidate words l.buf).answer;
  bytes = take (asked w words).bytes (command_of w l.candidate words l.buf).buf;
  source = (command_of w l.candidate words l.buf).world;
}

-- the source, for a collection of this page
abbrev pub controller_source : ℕ → Source
controller_source page = record { State = World; Event = Event; Lent = Loan; act = act_of; captures = captures_of page; drops = drops_of page; command = own_of }
