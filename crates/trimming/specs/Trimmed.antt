-- Trimming a candidate whose numbers are in order gives last blocks that keep the rule; what the page then has.
-- Assumes nothing.
use Rattle.std.specs.Prelude.{ℕ, zero, suc, ◌≤◌, ◌≡◌, refl, List, [], ◌∷◌, Bool, true, false, ◌&&◌, get_or, leb}
use Rattle.std.proofs.Common.{arith, leb-true, leb-false}
use Rattle.choices.specs.Choice.{pick, pick_cases, smaller, larger}
use Rattle.choices.specs.Tests.{and_left, and_right, clash}
use Rattle.pages.specs.declared.Caps.{Caps}
use Rattle.pages.specs.Pages.{most3, most4, last_of, area4, blocks_of}
use Rattle.lastblocks.specs.LastBlocks.{greatest_of}
use Rattle.lastblocks.specs.Rule.{LastRule}
use Rattle.trimming.specs.Trimming.{top_of, trimmed_to, trim_of}

one_to_three : (P : ℕ → Type 0) (x : ℕ) → 1 ≤ x → x ≤ 3 → P 1 → P 2 → P 3 → P x
one_to_three P zero p q one two three = absurd (omega arith)
one_to_three P (suc zero) p q one two three = one
one_to_three P (suc (suc zero)) p q one two three = two
one_to_three P (suc (suc (suc zero))) p q one two three = three
one_to_three P (suc (suc (suc (suc n)))) p q one two three = absurd (omega arith)

-- the greatest area is one of four, and 4 only where area 4 is there
pub top_cases : (P : ℕ → Type 0) (caps : Caps) (mcda : ℕ) → P 1 → P 2 → P 3 → (area4 caps ≡ true → P 4) → P (top_of caps mcda)
unfolding top_of
top_cases P caps mcda one two three four =
    pick_cases P (caps.mcdas && leb 1 mcda && leb mcda 4)
    (λ e. pick_cases P (leb whole mcda) (λ f. kept) (λ f. one_to_three P mcda (leb-true 1 mcda (asked e)) (below f) one two three))
    (λ e. kept)
  where
    whole : ℕ
    whole = pick (area4 caps) 4 3

    kept : P (pick (area4 caps) 4 3)
    kept = pick_cases P (area4 caps) four (λ e. three)

    asked : caps.mcdas && leb 1 mcda && leb mcda 4 ≡ true → leb 1 mcda ≡ true
    asked e = and_right caps.mcdas (leb 1 mcda) (and_left (caps.mcdas && leb 1 mcda) (leb mcda 4) e)

    below : leb (pick (area4 caps) 4 3) mcda ≡ false → mcda ≤ 3
    below f =
        let l = leb-false (pick (area4 caps) 4 3) mcda f in
        let m : pick (area4 caps) 4 3 ≤ 4 = pick_cases (λ (x : ℕ). x ≤ 4) (area4 caps) (λ e. omega arith) (λ e. omega arith) in
        omega arith

-- a candidate's numbers in order: a1 ≤ a2 ≤ a3 ≤ a4, a3 within its limit, and a4 > 0 asks for a3 > 0
pub record InOrder (a : List ℕ) : Type 0 where
  pub one_two : get_or a 0 0 ≤ get_or a 1 0
  pub two_three : get_or a 1 0 ≤ get_or a 2 0
  pub three_four : get_or a 2 0 ≤ get_or a 3 0
  pub three_most : get_or a 2 0 ≤ most3
  pub four_some : get_or a 2 0 ≡ 0 → get_or a 3 0 ≡ 0

same_two : (d e : Bool) (x : ℕ) → pick (d && e) (pick d x 0) x ≡ x
same_two true true x = refl
same_two true false x = refl
same_two false e x = refl

first_two : (d e : Bool) (x y : ℕ) → d && e ≡ true → pick (d && e) (pick d x 0) y ≡ x
first_two true true x y h = refl
first_two true false x y h = clash h refl
first_two false e x y h = clash h refl

-- a page's blocks after a capture are those of the greatest area kept
pub trim_blocks : (caps : Caps) (mcda : ℕ) (a : List ℕ) → blocks_of caps (trim_of caps mcda a) ≡ last_of (top_of caps mcda) a
unfolding trim_of trimmed_to blocks_of
trim_blocks caps mcda a =
    top_cases (λ (m : ℕ). blocks_of caps (trimmed_to caps.da4s m a) ≡ last_of m a) caps mcda
    (same_two caps.da4s caps.etdas (get_or a 0 0))
    (same_two caps.da4s caps.etdas (get_or a 1 0))
    (same_two caps.da4s caps.etdas (get_or a 2 0))
    (λ e. first_two caps.da4s caps.etdas (get_or a 3 0) (get_or a 2 0) e)

rule_of : (da4s : Bool) (a b c d : ℕ) → a ≤ b → b ≤ c → c ≤ most3 → c ≤ d → d ≤ most4 → (c ≡ 0 → d ≡ 0)
    → LastRule da4s (a ∷ b ∷ c ∷ pick da4s d 0 ∷ [])
rule_of true a b c d p q r s t u =
    record { one_two = p; two_three = q; three_most = r; three_four = λ e. s; four_most = t; four_none = λ e. clash refl e; four_some = u }
rule_of false a b c d p q r s t u =
    record { one_two = p; two_three = q; three_most = r; three_four = λ e. clash e refl; four_most = omega arith; four_none = λ e. refl; four_some = λ e. refl }

-- a candidate's numbers in order, whose greatest kept block is within the limit, are trimmed to last blocks that keep the rule
pub trim_keeps_rule : (caps : Caps) (mcda : ℕ) (a : List ℕ) → InOrder a → last_of (top_of caps mcda) a ≤ most4
    → LastRule caps.da4s (trim_of caps mcda a)
unfolding trim_of trimmed_to
trim_keeps_rule caps mcda a o =
    top_cases (λ (m : ℕ). last_of m a ≤ most4 → LastRule caps.da4s (trimmed_to caps.da4s m a)) caps mcda
    (λ h. rule_of caps.da4s (get_or a 0 0) (get_or a 0 0) (get_or a 0 0) (get_or a 0 0) (omega arith) (omega arith) (omega arith) (omega arith) h (λ e. e))
    (λ h. rule_of caps.da4s (get_or a 0 0) (get_or a 1 0) (get_or a 1 0) (get_or a 1 0) o.one_two (omega arith) (omega arith) (omega arith) h (λ e. e))
    (λ h. rule_of caps.da4s (get_or a 0 0) (get_or a 1 0) (get_or a 2 0) (get_or a 2 0) o.one_two o.two_three o.three_most (omega arith) h (λ e. e))
    (λ e h. rule_of caps.da4s (get_or a 0 0) (get_or a 1 0) (get_or a 2 0) (get_or a 3 0) o.one_two o.two_three o.three_most o.three_four h o.four_some)

-- the greatest last block stored is that of the greatest area kept
pub trim_greatest : (caps : Caps) (mcda : ℕ) (a : List ℕ) → InOrder a → greatest_of (trim_of caps mcda a) ≤ last_of (top_of caps mcda) a
unfolding trim_of trimmed_to greatest_of
trim_greatest caps mcda a o =
    top_cases (λ (m : ℕ). greatest_of (trimmed_to caps.da4s m a) ≤ last_of m a) caps mcda
    (within_four caps.da4s _ _ _ _ _ (omega arith) (omega arith) (omega arith) (omega arith))
    (within_four caps.da4s _ _ _ _ _ o.one_two (omega arith) (omega arith) (omega arith))
    (within_four caps.da4s _ _ _ _ _ (omega arith) o.two_three (omega arith) (omega arith))
    (λ e. within_four caps.da4s _ _ _ _ _ (omega arith) (omega arith) o.three_four (omega arith))
  where
    larger_most : (x y n : ℕ) → x ≤ n → y ≤ n → larger x y ≤ n
    larger_most x y n p q = pick_cases (λ (z : ℕ). z ≤ n) (leb x y) (λ e. q) (λ e. p)

    within_four : (da4s : Bool) (x y z u n : ℕ) → x ≤ n → y ≤ n → z ≤ n → u ≤ n → larger x (larger y (larger z (pick da4s u 0))) ≤ n
    within_four da4s x y z u n p q r s =
        larger_most x _ n p (larger_most y _ n q (larger_most z _ n r (pick_cases (λ (v : ℕ). v ≤ n) da4s (λ e. s) (λ e. omega arith))))

-- without an MCDA areas 1 to 3 are kept whole
pub trim_three : (caps : Caps) (a : List ℕ) → get_or (trim_of caps 0 a) 2 0 ≡ get_or a 2 0
unfolding trim_of trimmed_to top_of
trim_three caps a =
    uncut caps.mcdas (smaller (pick (area4 caps) 4 3) 0) (pick (area4 caps) 4 3) (λ (m : ℕ). get_or (trimmed_to caps.da4s m a) 2 0 ≡ get_or a 2 0)
    (pick_cases (λ (m : ℕ). get_or (trimmed_to caps.da4s m a) 2 0 ≡ get_or a 2 0) (area4 caps) (λ e. refl) (λ e. refl))
  where
    uncut : (t : Bool) (x y : ℕ) (P : ℕ → Type 0) → P y → P (pick (t && leb 1 0 && leb 0 4) x y)
    uncut true x y P p = p
    uncut false x y P p = p
