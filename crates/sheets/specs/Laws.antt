-- What an addition and the mean are worth: two sheets are added or one is refused and changes nothing; the mean, the good runs and the rest make the blocks.
-- Assumes nothing.
use Rattle.std.specs.Prelude.{◌≡◌, ◌+◌, ◌*◌, ◌<◌, true, false, not, ◌==◌, ◌≢◌, refl}
use Rattle.std.proofs.Common.{sym, arith, mod-lt, div-add-mod'}
use Rattle.std.proofs.lemmas.Bool.{eqb-false}
use Rattle.choices.specs.Tests.{holds, clash, by_test}
use Rattle.answers.specs.Answers.{success, total_full}
use Rattle.sheets.specs.declared.Sheet.{Sheet}
use Rattle.sheets.specs.Sheets.{good, blank, plus, all_fit, answered, add_of, mean_of}
use Rattle.sheets.specs.Sums.{is_fit}

-- the blank sheet is fit
pub blank_fit : is_fit blank ≡ true
unfolding all_fit holds
blank_fit = refl

-- ---- an addition

-- two sheets are added, with the sums, or the first stays as it was
pub add_taken : (s other : Sheet) → all_fit s other ≡ true → add_of s other ≡ answered success (plus s other)
unfolding add_of
add_taken s other e = rw e

pub add_fits : (s other : Sheet) → (add_of s other).answer ≡ success → all_fit s other ≡ true
unfolding add_of
add_fits s other = by_test (all_fit s other) (λ p. rw p (λ e. refl)) (λ p. rw p (λ e. absurd (omega arith)))

pub add_20 : (s other : Sheet) → all_fit s other ≡ false → add_of s other ≡ answered total_full s
unfolding add_of
add_20 s other e = rw e

-- a refusal leaves the sheet as it was
pub add_refusal : (s other : Sheet) → ((add_of s other).answer ≢ success) → (add_of s other).sheet ≡ s
unfolding add_of
add_refusal s other = by_test (all_fit s other) (λ p. rw p (λ n. absurd (n refl))) (λ p. rw p (λ n. refl))

-- ---- the mean

-- **The mean**: times the good runs, with the rest, it is the blocks; and the rest is no whole share
pub mean_exact : (s : Sheet) → (mean_of s).given ≡ true → (s.blocks ≡ (mean_of s).whole * good s + (mean_of s).rest) × ((mean_of s).rest < good s)
unfolding mean_of
mean_exact s =
    by_test (good s == 0)
    (λ p. rw p (λ e. clash e refl))
    (λ p. rw p (λ e. (sym (div-add-mod' s.blocks (good s)), let n = eqb-false (good s) 0 p in mod-lt s.blocks (omega arith))))

-- there is one exactly where a run ended well
pub mean_given : (s : Sheet) → (mean_of s).given ≡ not (good s == 0)
unfolding mean_of
mean_given s = by_test (good s == 0) (λ p. rw p refl) (λ p. rw p refl)
