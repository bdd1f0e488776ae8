-- Which commands of a run carry RAE and create, whatever completes them: all but the last have RAE 1, and on 07h the last one too; create is
-- sent with the first command alone.
-- What is proved of these words stands in proofs/Retained.antt.
-- Assumes nothing.
use Rattle.std.specs.Prelude.{◌≡◌, List, [], ◌∷◌, true, false}
use Rattle.words.specs.declared.Words.{Words}
use Rattle.words.specs.Words.{read_of}

-- all commands of a list, and all but its last one
abbrev pub All : (Words → Type 0) → List Words → Type 0
All P [] = Unit
All P (w ∷ ws) = P w × All P ws

abbrev pub AllButLast : (Words → Type 0) → List Words → Type 0
AllButLast P [] = Unit
AllButLast P (w ∷ []) = Unit
AllButLast P (w ∷ v ∷ ws) = P w × AllButLast P (v ∷ ws)

abbrev pub AllButFirst : (Words → Type 0) → List Words → Type 0
AllButFirst P [] = Unit
AllButFirst P (w ∷ ws) = All P ws

-- RAE is 1
abbrev pub Retains : Words → Type 0
Retains w = (read_of true w).rae ≡ true

-- create is not set
abbrev pub NoCreate : Words → Type 0
NoCreate w = (read_of true w).create ≡ false
