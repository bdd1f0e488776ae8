-- A month at its limits, computed: what a reader of document 02, Q-12, may want to see happen.
-- Assumes nothing.
use Rattle.std.specs.Prelude.{ℕ, ◌-◌, ◌≡◌, refl, [], ◌∷◌, map, true, false}
use Rattle.std.proofs.Common.{ap, arith}
use Rattle.choices.specs.Tests.{holds}
use Rattle.answers.specs.Answers.{success, bad_setup, total_full}
use Rattle.sheets.specs.declared.Sheet.{Sheet}
use Rattle.sheets.specs.Sheets.{greatest, blank, plus, all_fit, answered, add_of, mean_of}
use Rattle.entries.specs.declared.Run.{Run}
use Rattle.entries.specs.Entries.{is_run, enter_of}
use Rattle.entries.specs.Laws.{enter_all}

-- a run that ended well with so many blocks, by so many commands
abbrev well : ℕ → ℕ → Run
well blocks commands = record { ending = 0; blocks = blocks; commands = commands; failed = 0 }

-- a run that ended so, with so many blocks kept all the same
abbrev badly : ℕ → ℕ → Run
badly ending blocks = record { ending = ending; blocks = blocks; commands = 3; failed = 1 }

-- one good run, of all blocks but one
abbrev nearly : Sheet
nearly = enter_all blank (well (greatest - 1) 7 ∷ [])

-- the greatest total is taken, and one more is not
pub brim : (enter_of nearly (well 1 7)).answer ≡ success
unfolding enter_of add_of is_run all_fit plus holds
brim = refl

pub brimful : (enter_of nearly (well 1 7)).sheet.blocks ≡ greatest
unfolding enter_of add_of is_run all_fit plus holds
brimful = refl

pub one_more : (enter_of nearly (well 2 7)).answer ≡ total_full
unfolding enter_of add_of is_run all_fit plus holds
one_more = refl

-- any total counts, and a full one refuses the whole entry: commands, failed attempts, the runs of an ending
pub full_commands : enter_of nearly (well 0 greatest) ≡ answered total_full nearly
unfolding enter_of add_of is_run all_fit plus holds
full_commands = refl

-- so many failed attempts, and so many runs that used all attempts up
abbrev used : ℕ → ℕ → Sheet
used failed runs = record { runs = 0 ∷ 0 ∷ 0 ∷ runs ∷ 0 ∷ 0 ∷ 0 ∷ 0 ∷ []; blocks = 0; commands = 5; failed = failed }

pub full_failed : enter_of (used greatest 1) (badly 9 0) ≡ answered total_full (used greatest 1)
unfolding enter_of add_of is_run all_fit plus holds
full_failed = refl

pub full_ending : enter_of (used 1 greatest) (badly 9 0) ≡ answered total_full (used 1 greatest)
unfolding enter_of add_of is_run all_fit plus holds
full_ending = refl

pub other_ending : (enter_of (used 1 greatest) (badly 10 0)).answer ≡ success
unfolding enter_of add_of is_run all_fit plus holds
other_ending = refl

-- 13 goes before 20: blocks with an ending other than 0, also where they would not fit
pub thirteen_first : (enter_of nearly (badly 7 2)).answer ≡ bad_setup
unfolding enter_of add_of is_run all_fit plus holds
thirteen_first = refl

-- endings that no run has: 6 and 13 are none, since no collection began
pub no_endings : map (λ (ending : ℕ). (enter_of blank (badly ending 0)).answer) (1 ∷ 6 ∷ 13 ∷ 14 ∷ 15 ∷ 18 ∷ 20 ∷ 255 ∷ [])
    ≡ map (λ (ending : ℕ). bad_setup) (1 ∷ 6 ∷ 13 ∷ 14 ∷ 15 ∷ 18 ∷ 20 ∷ 255 ∷ [])
unfolding enter_of add_of is_run all_fit plus holds
no_endings = refl

-- a good run of no blocks counts in the mean: 7 blocks of two runs are 3 and 1 of 2, not 7
pub counts_in_the_mean : mean_of (enter_all blank (well 7 9 ∷ well 0 2 ∷ badly 9 0 ∷ [])) ≡ record { given = true; whole = 3; rest = 1 }
unfolding enter_of add_of is_run all_fit plus holds mean_of
counts_in_the_mean = refl

pub no_good_run : (mean_of (enter_all blank (badly 9 0 ∷ []))).given ≡ false
unfolding enter_of add_of is_run all_fit plus holds mean_of
no_good_run = refl

-- the premise of `in_any_order` is needed: where one of two runs is refused, the order says which
pub order_counts : enter_all blank (well greatest 1 ∷ well 1 1 ∷ []) ≡ enter_all blank (well 1 1 ∷ well greatest 1 ∷ []) → ⊥
unfolding enter_of add_of is_run all_fit plus holds
order_counts e = let b = ap (λ (s : Sheet). s.blocks) e in omega arith
