-- What a command asks, the answer to it, and a world that agrees with itself: the words of proofs/Laws.antt, which says what any command, capture and drop keep.
-- Assumes nothing.
use Rattle.std.specs.Prelude.{ℕ, ◌≡◌, List, true, length}
use Rattle.words.specs.declared.Command.{Command}
use Rattle.words.specs.declared.Words.{Words}
use Rattle.words.specs.Words.{read_of}
use Rattle.records.specs.Records.{agrees_with}
use Rattle.verdicts.specs.Verdicts.{command_answer}
use Rattle.controller.specs.Controller.{World, Candidate, lent_by}

-- what the words say, and the answer to that
abbrev pub asked : World → Words → Command
asked w words = read_of w.own.caps.extended words

abbrev pub verdict : World → Candidate → Words → List ℕ → ℕ
verdict w candidate words buf = command_answer w.own (asked w words) candidate.last (lent_by w candidate buf)

-- the record agrees with itself and with its stores
abbrev pub Agrees : World → Type 0
Agrees w = agrees_with w.own (length w.host) (length w.controller) ≡ true
