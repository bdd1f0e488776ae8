-- Document 01, "Host": a reader of a finished copy. The block at a place of the copy, and the place after it. A place is any number of
-- bytes.
-- Assumes nothing.
use Rattle.std.specs.Prelude.{ℕ, ◌+◌, ◌-◌, ◌/◌, Bool, true, false, ◌&&◌, List, [], Option, Some, None, leb, length, take, drop}
use Rattle.choices.specs.Choice.{pick}
use Rattle.pages.specs.Pages.{block}
use Rattle.reader.specs.declared.Reader.{Reader}

-- a place in a copy, and whether the step that led there found a block
pub record Place : Type 0 where
  pub more : Bool
  pub at : ℕ

-- a block stands from the place on, in a copy of n bytes
unfoldable pub more_at : ℕ → ℕ → Bool
more_at n at = leb at n && leb block (n - at)

-- the block there, or nothing at the end
unfoldable pub block_at : List ℕ → ℕ → List ℕ
block_at copy at = pick (more_at (length copy) at) (take block (drop at copy)) []

-- whether there is one, and the place after it: at the end the place stays
unfoldable pub place_at : ℕ → ℕ → Place
place_at n at = pick (more_at n at) (record { more = true; at = at + block }) (record { more = false; at = at })

-- where a step from a place leads that found the block before a second place, or none: at the end the place stays
abbrev pub led_to : ℕ → Option ℕ → Place
led_to at (Some after) = record { more = true; at = after }
led_to at None = record { more = false; at = at }

-- the blocks from a place on, in a copy of n bytes
abbrev pub blocks_left : ℕ → ℕ → ℕ
blocks_left n at = (n - at) / block

-- the reader that has moved on to that place
abbrev pub moved_on : Reader → Reader
moved_on r = record { copy = r.copy; at = (place_at (length r.copy.now) r.at).at }

-- where the part that is handed out lies in memory, the copy being at p: at the place, or at the copy's start at the end
unfoldable pub part_at : ℕ × ℕ → ℕ → ℕ → ℕ × ℕ
part_at p n at = (p.0, pick (more_at n at) at 0 + p.1)
