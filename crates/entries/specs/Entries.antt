-- Document 02, Q-12: how a run is entered into the month's sheet.
-- Assumes nothing.
use Rattle.std.specs.Prelude.{ℕ, map, Bool, ◌&&◌, ◌||◌, eqb}
use Rattle.choices.specs.Choice.{pick, one}
use Rattle.answers.specs.Answers.{success, bad_setup}
use Rattle.sheets.specs.declared.Sheet.{Sheet}
use Rattle.sheets.specs.Sheets.{Entered, one_of, endings, answered, add_of}
use Rattle.entries.specs.declared.Run.{Run}

-- the sheet of one run
abbrev pub single : Run → Sheet
single r = record { runs = map (λ (e : ℕ). one (eqb r.ending e)) endings; blocks = r.blocks; commands = r.commands; failed = r.failed }

-- an ending that a run has
abbrev pub is_ending : ℕ → Bool
is_ending n = one_of (map (λ (e : ℕ). eqb n e) endings)

-- a run that can be: it has such an ending, and blocks were kept with 0 alone
unfoldable pub is_run : Run → Bool
is_run r = is_ending r.ending && (eqb r.ending success || eqb r.blocks 0)

-- a run entered: 13 and the sheet as it was, or what adding the sheet of that run gives
unfoldable pub enter_of : Sheet → Run → Entered
enter_of s r = pick (is_run r) (add_of s (single r)) (answered bad_setup s)
