-- What holds of each total holds of sheets: three sheets taken total by total.
-- Assumes nothing.
use Rattle.std.specs.Prelude.{◌≡◌, ℕ, ◌+◌, ◌≤◌, Bool, true, List, ◌∷◌, slice_index}
use Rattle.std.proofs.Common.{arith, leb-true, le-leb}
use Rattle.choices.specs.Tests.{holds, each}
use Rattle.sheets.specs.declared.Sheet.{Sheet}
use Rattle.sheets.specs.Sheets.{greatest, blank, each_of, plus, fits, all_fit}

-- ---- equations

-- a sheet whose totals are made of those of three
abbrev made : (ℕ → ℕ → ℕ → ℕ) → Sheet → Sheet → Sheet → Sheet
made f a b c = record {
  runs = each_of (λ (i : ℕ). f (slice_index a.runs i) (slice_index b.runs i) (slice_index c.runs i));
  blocks = f a.blocks b.blocks c.blocks;
  commands = f a.commands b.commands c.commands;
  failed = f a.failed b.failed c.failed;
}

same_made : (f g : ℕ → ℕ → ℕ → ℕ) → ((x y z : ℕ) → f x y z ≡ g x y z) → (a b c : Sheet) → made f a b c ≡ made g a b c
same_made f g e a b c =
    rw (
      at 0,
      at 1,
      at 2,
      at 3,
      at 4,
      at 5,
      at 6,
      at 7,
      e a.blocks b.blocks c.blocks,
      e a.commands b.commands c.commands,
      e a.failed b.failed c.failed,
    )
  where
    at : (i : ℕ) → f (slice_index a.runs i) (slice_index b.runs i) (slice_index c.runs i) ≡ g (slice_index a.runs i) (slice_index b.runs i) (slice_index c.runs i)
    at i = e (slice_index a.runs i) (slice_index b.runs i) (slice_index c.runs i)

pub plus_assoc : (a b c : Sheet) → plus (plus a b) c ≡ plus a (plus b c)
unfolding plus
plus_assoc a b c = same_made (λ x y z. x + y + z) (λ x y z. x + (y + z)) (λ x y z. omega arith) a b c

pub plus_swap : (a b c : Sheet) → plus (plus a b) c ≡ plus (plus a c) b
unfolding plus
plus_swap a b c = same_made (λ x y z. x + y + z) (λ x y z. x + z + y) (λ x y z. omega arith) a b c

-- a sum with nothing is as it was
pub plus_none : (a b : Sheet) → plus (plus a b) blank ≡ plus a b
unfolding plus
plus_none a b = same_made (λ x y z. x + y + 0) (λ x y z. x + y) (λ x y z. omega arith) a b blank

pub none_plus : (a b : Sheet) → plus blank (plus a b) ≡ plus a b
unfolding plus
none_plus a b = same_made (λ x y z. 0 + (x + y)) (λ x y z. x + y) (λ x y z. omega arith) a b blank

-- ---- tests

-- a test of each total of three sheets
abbrev tested : (ℕ → ℕ → ℕ → Bool) → Sheet → Sheet → Sheet → List Bool
tested t a b c =
    t a.blocks b.blocks c.blocks
    ∷ t a.commands b.commands c.commands
    ∷ t a.failed b.failed c.failed
    ∷ each_of (λ (i : ℕ). t (slice_index a.runs i) (slice_index b.runs i) (slice_index c.runs i))

-- where one test follows from another, it does so of all totals
follows : (t u : ℕ → ℕ → ℕ → Bool) → ((x y z : ℕ) → t x y z ≡ true → u x y z ≡ true) → (a b c : Sheet)
    → holds (tested t a b c) ≡ true → holds (tested u a b c) ≡ true
unfolding holds
follows t u f a b c h =
    let all = each (tested t a b c) h in
    rw (
      f a.blocks b.blocks c.blocks (all 0),
      f a.commands b.commands c.commands (all 1),
      f a.failed b.failed c.failed (all 2),
      at 0 (all 3),
      at 1 (all 4),
      at 2 (all 5),
      at 3 (all 6),
      at 4 (all 7),
      at 5 (all 8),
      at 6 (all 9),
      at 7 (all 10),
    )
  where
    at : (i : ℕ) → t (slice_index a.runs i) (slice_index b.runs i) (slice_index c.runs i) ≡ true → u (slice_index a.runs i) (slice_index b.runs i) (slice_index c.runs i) ≡ true
    at i = f (slice_index a.runs i) (slice_index b.runs i) (slice_index c.runs i)

-- a sum that is no more than one that fits, fits
fits_below : (a b c d : ℕ) → c + d ≤ a + b → fits a b ≡ true → fits c d ≡ true
fits_below a b c d h e = let p = leb-true (a + b) greatest e in le-leb (c + d) greatest (omega arith)

-- every total is one
abbrev pub is_fit : Sheet → Bool
is_fit s = all_fit s blank

module _ (a b c : Sheet) where
  -- two sheets that fit after another do so before it, and without it
  pub fit_swap : all_fit (plus a b) c ≡ true → all_fit (plus a c) b ≡ true
  unfolding all_fit plus
  fit_swap = follows (λ x y z. fits (x + y) z) (λ x y z. fits (x + z) y) (λ x y z. fits_below (x + y) z (x + z) y (omega arith)) a b c

  pub fit_without : all_fit (plus a b) c ≡ true → all_fit a c ≡ true
  unfolding all_fit plus
  fit_without = follows (λ x y z. fits (x + y) z) (λ x y z. fits x z) (λ x y z. fits_below (x + y) z x z (omega arith)) a b c

  -- one after another, or both at once
  pub fit_both : all_fit (plus a b) c ≡ true → all_fit a (plus b c) ≡ true
  unfolding all_fit plus
  fit_both = follows (λ x y z. fits (x + y) z) (λ x y z. fits x (y + z)) (λ x y z. fits_below (x + y) z x (y + z) (omega arith)) a b c

  pub fit_then : all_fit a (plus b c) ≡ true → all_fit (plus a b) c ≡ true
  unfolding all_fit plus
  fit_then = follows (λ x y z. fits x (y + z)) (λ x y z. fits (x + y) z) (λ x y z. fits_below x (y + z) (x + y) z (omega arith)) a b c

  pub fit_first : all_fit a (plus b c) ≡ true → all_fit a b ≡ true
  unfolding all_fit plus
  fit_first = follows (λ x y z. fits x (y + z)) (λ x y z. fits x y) (λ x y z. fits_below x (y + z) x y (omega arith)) a b c

-- what comes of a sum that fits is fit
pub fit_sum : (a b : Sheet) → all_fit a b ≡ true → is_fit (plus a b) ≡ true
unfolding all_fit plus
fit_sum a b = follows (λ x y z. fits x y) (λ x y z. fits (x + y) 0) (λ x y z. fits_below x y (x + y) 0 (omega arith)) a b blank

-- a sheet that is fit fits onto nothing
pub fit_turned : (a : Sheet) → is_fit a ≡ true → all_fit blank a ≡ true
unfolding all_fit
fit_turned a = follows (λ x y z. fits x 0) (λ x y z. fits 0 x) (λ x y z. fits_below x 0 0 x (omega arith)) a blank blank
