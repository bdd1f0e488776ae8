-- Document 02, Q-12: the month's sheet. Exact totals over finished runs, how sheets are added, and the mean.
-- Assumes nothing.
use Rattle.std.specs.Prelude.{ℕ, ◌+◌, ◌/◌, ◌%◌, Bool, true, false, ◌&&◌, ◌||◌, leb, List, [], ◌∷◌, Option, Some, None, Result, Ok, Err, map, ◌==◌, nat_le, slice_index}
use Rattle.choices.specs.Choice.{pick}
use Rattle.choices.specs.Tests.{holds}
use Rattle.answers.specs.Answers.{success, bad_header, no_room, attempts_used_up, withdrawn, nothing, broke_its_word, out_of_reach, total_full, refusal_number}
use Rattle.answers.specs.declared.Refusal.{Refusal}
use Rattle.sheets.specs.declared.Sheet.{Sheet}
use Rattle.sheets.specs.declared.Mean as code

-- ---- one of a row

-- the test t or one of the row
abbrev pub or_from : Bool → List Bool → Bool
or_from t [] = t
or_from t (u ∷ us) = or_from (t || u) us

-- a test of the row holds: it computes to the chain of `||` that the code's chain of `|` makes
abbrev pub one_of : List Bool → Bool
one_of ts = or_from false ts

-- ---- totals

-- the greatest total, 2^64 - 1
abbrev pub greatest : ℕ
greatest = 18446744073709551615

-- the endings that a run has, in the order in which a sheet counts their runs
abbrev pub endings : List ℕ
endings = success ∷ bad_header ∷ no_room ∷ attempts_used_up ∷ withdrawn ∷ nothing ∷ broke_its_word ∷ out_of_reach ∷ []

-- the runs that ended well
abbrev pub good : Sheet → ℕ
good s = slice_index s.runs 0

-- the sheet of no run
abbrev pub blank : Sheet
blank = record { runs = map (λ (e : ℕ). 0) endings; blocks = 0; commands = 0; failed = 0 }

-- ---- adding

-- eight numbers, by their places
abbrev pub each_of : {A : Type 0} → (ℕ → A) → List A
each_of f = map f (0 ∷ 1 ∷ 2 ∷ 3 ∷ 4 ∷ 5 ∷ 6 ∷ 7 ∷ [])

-- every total is the sum of the two
unfoldable pub plus : Sheet → Sheet → Sheet
plus a b = record {
  runs = each_of (λ (i : ℕ). slice_index a.runs i + slice_index b.runs i);
  blocks = a.blocks + b.blocks;
  commands = a.commands + b.commands;
  failed = a.failed + b.failed;
}

-- a sum that is no more than the greatest total
abbrev pub fits : ℕ → ℕ → Bool
fits a b = nat_le (a + b) greatest

-- no total of the two sheets added would pass it
unfoldable pub all_fit : Sheet → Sheet → Bool
all_fit a b = holds
    (fits a.blocks b.blocks
    ∷ fits a.commands b.commands
    ∷ fits a.failed b.failed
    ∷ each_of (λ (i : ℕ). fits (slice_index a.runs i) (slice_index b.runs i)))

-- an answer, and the sheet afterwards
pub record Entered : Type 0 where
  pub answer : ℕ
  pub sheet : Sheet

-- the two together
abbrev pub answered : ℕ → Sheet → Entered
answered answer s = record { answer = answer; sheet = s }

-- a sheet added to another: 20 and the sheet as it was, or the sums
unfoldable pub add_of : Sheet → Sheet → Entered
add_of s other = pick (all_fit s other) (answered success (plus s other)) (answered total_full s)

-- what comes of an entry into a sheet, or of an addition to it: the new sheet with 0, or the refusal's number and the sheet as it was
abbrev pub outcome : Sheet → Result Sheet Refusal → Entered
outcome s (Ok after) = answered success after
outcome s (Err refusal) = answered (refusal_number refusal) s

-- ---- the mean

-- the mean blocks a good run: whether there is one, its whole part, and what is left of the blocks. Where there is none, both are 0
pub record Mean : Type 0 where
  pub given : Bool
  pub whole : ℕ
  pub rest : ℕ

-- there is no mean
abbrev pub no_mean : Mean
no_mean = record { given = false; whole = 0; rest = 0 }

-- the mean that is told, or none
abbrev pub told : Option code.Mean → Mean
told (Some m) = record { given = true; whole = m.whole; rest = m.rest }
told None = no_mean

-- so many blocks shared among so many good runs
abbrev pub shared : ℕ → ℕ → Mean
shared blocks among = record { given = true; whole = blocks / among; rest = blocks % among }

-- the mean blocks a good run, divided once, or none where no run ended well
unfoldable pub mean_of : Sheet → Mean
mean_of s = pick (good s == 0) no_mean (shared s.blocks (good s))

-- ---- sheets that there are

-- some run is counted
abbrev pub any_run : Sheet → Bool
any_run s = one_of (each_of (λ (i : ℕ). leb 1 (slice_index s.runs i)))

-- a sheet that some runs have: no blocks without a good run, no commands and no failed attempts without a run
unfoldable pub possible : Sheet → Bool
possible s = (nat_le 1 (good s) || s.blocks == 0) && (any_run s || s.commands == 0 && s.failed == 0)
