-- struct bumbazeel_next of include/bumbazeel.h, 32 bytes, field by field in the file's order.
-- Assumes nothing.
use Rattle.std.specs.Prelude.{ℕ, List, [], ◌∷◌, ◌++◌}
use Rattle.choices.specs.Choice.{one}
use Rattle.littleendian.specs.Numbers.{bytes_of}
use Rattle.words.specs.declared.Words.{Words}
use Rattle.words.specs.Words.{no_words}
use Rattle.endings.specs.Endings.{number_of, newer_of, fault_in}
use Rattle.shared_layouts.specs.Layouts.{fault_number}
use Rattle.collection.specs.Told.{Next}
use Rattle.collection.specs.declared.Next.TheVariants.{Send, End as Ends, Refuse}

-- the kinds: a command to send, an ending, a refusal
abbrev pub send : ℕ
send = 0

abbrev pub ending : ℕ
ending = 1

abbrev pub refusal : ℕ
refusal = 2

abbrev pub kind_of : Next → ℕ
kind_of (Send w) = send
kind_of (Ends e) = ending
kind_of (Refuse answer) = refusal

-- kind, answer, newer, field at fault, words and count as 32 bytes
unfoldable pub next_parts : ℕ → ℕ → ℕ → ℕ → Words → ℕ → List ℕ
next_parts kind answer newer field w count =
    (kind ∷ answer ∷ newer ∷ field ∷ [])
    ++ bytes_of 4 w.cdw10  -- 4
    ++ bytes_of 4 w.cdw11
    ++ bytes_of 4 w.cdw12
    ++ bytes_of 4 w.cdw13
    ++ bytes_of 4 w.cdw14
    ++ bytes_of 8 count  -- 24

-- what follows, as 32 bytes
unfoldable pub next_bytes : Next → List ℕ
next_bytes (Send w) = next_parts send 0 0 0 w 0
next_bytes (Ends e) = next_parts ending (number_of e.ending) (one (newer_of e.ending)) (fault_number (fault_in e.ending)) no_words e.count
next_bytes (Refuse answer) = next_parts refusal answer 0 0 no_words 0
