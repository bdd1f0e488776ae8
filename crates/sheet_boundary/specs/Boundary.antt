-- What the sheet's functions of include/bumbazeel.h answer and write, over lent bytes.
-- Assumes nothing.
use Rattle.std.specs.Prelude.{ℕ, List, ◌&&◌, eqb}
use Rattle.choices.specs.Choice.{pick}
use Rattle.answers.specs.Answers.{success, bad_setup}
use Rattle.sheets.specs.declared.Sheet.{Sheet}
use Rattle.sheets.specs.Sheets.{Entered, Mean, answered, add_of, no_mean, mean_of}
use Rattle.entries.specs.declared.Run.{Run}
use Rattle.entries.specs.Entries.{enter_of}
use Rattle.sheet_layout.specs.Layout.{sheet_bytes, sheet_at, sheet_intact}

-- a finished run by its four numbers
abbrev pub run_of : ℕ → ℕ → ℕ → ℕ → Run
run_of ending blocks commands failed = record { ending = ending; blocks = blocks; commands = commands; failed = failed }

-- what a damaged sheet gets
abbrev pub damaged : Sheet → Entered
damaged s = answered bad_setup s

-- a run entered into the sheet that the bytes say, unless they are damaged
unfoldable pub enter_at : List ℕ → Run → Entered
enter_at b r = pick (sheet_intact b) (enter_of (sheet_at b) r) (damaged (sheet_at b))

-- the sheet that other bytes say added to it, unless either are damaged
unfoldable pub add_at : List ℕ → List ℕ → Entered
add_at b more = pick (sheet_intact b && sheet_intact more) (add_of (sheet_at b) (sheet_at more)) (damaged (sheet_at b))

-- the sheet's bytes afterwards: with 0 those of the new sheet, else as they were
abbrev pub bytes_after : List ℕ → Entered → List ℕ
bytes_after b x = pick (eqb x.answer success) (sheet_bytes x.sheet) b

-- whether a mean can be told
abbrev pub mean_answer : List ℕ → ℕ
mean_answer b = pick (sheet_intact b) success bad_setup

-- the mean of the sheet that the bytes say; none of damaged ones
unfoldable pub mean_at : List ℕ → Mean
mean_at b = pick (sheet_intact b) (mean_of (sheet_at b)) no_mean
