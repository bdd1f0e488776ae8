-- What holds of a page's last blocks.
-- Assumes nothing.
use Rattle.std.specs.Prelude.{ℕ, zero, suc, ◌^◌, ◌≤◌, ◌<◌, ◌≡◌, refl, Bool, true, List, length, get_or}
use Rattle.std.proofs.Common.{sym, ◌∙◌, arith, ext_get_or, eqb-true, eq-eqb}
use Rattle.std.proofs.Math.ListN.{get_or-eq_default}
use Rattle.choices.specs.Choice.{pick_cases}
use Rattle.choices.specs.Tests.{holds, each}
use Rattle.pages.specs.declared.Caps.{Caps}
use Rattle.pages.specs.Pages.{area4, blocks_of}
use Rattle.lastblocks.specs.LastBlocks.{same_last, greatest_of}
use Rattle.lastblocks.specs.Rule.{LastRule, greatest_within}

-- a page's blocks are no more than its greatest last block
pub blocks_greatest : (caps : Caps) (a : List ℕ) → blocks_of caps a ≤ greatest_of a
unfolding blocks_of
blocks_greatest caps a =
    let g = greatest_within a in
    pick_cases (λ (x : ℕ). x ≤ greatest_of a) (area4 caps) (λ e. g.four) (λ e. g.three)

-- last blocks that keep the rule have four bytes each
pub rule_ranged : (da4s : Bool) (a : List ℕ) → LastRule da4s a → length a ≡ 4 → (i : ℕ) → get_or a i 0 < 256 ^ 4
rule_ranged da4s a r four zero = omega (arith, r.one_two, r.two_three, r.three_most)
rule_ranged da4s a r four (suc zero) = omega (arith, r.two_three, r.three_most)
rule_ranged da4s a r four (suc (suc zero)) = omega (arith, r.three_most)
rule_ranged da4s a r four (suc (suc (suc zero))) = omega (arith, r.four_most)
rule_ranged da4s a r four (suc (suc (suc (suc i)))) = rw (get_or-eq_default a 0 {n = suc (suc (suc (suc i)))} (omega arith)) (omega arith)

-- four last blocks are the same as themselves, and as no others
pub same_itself : (a : List ℕ) → same_last a a ≡ true
unfolding same_last holds
same_itself a = rw (eq-eqb (get_or a 0 0) _ refl, eq-eqb (get_or a 1 0) _ refl, eq-eqb (get_or a 2 0) _ refl, eq-eqb (get_or a 3 0) _ refl)

pub same_last_lem : (a b : List ℕ) → length a ≡ 4 → length b ≡ 4 → same_last a b ≡ true → a ≡ b
unfolding same_last
same_last_lem a b m n e = ext_get_or 0 a b (m ∙ sym n) by
  where
    by : (i : ℕ) → i < length a → get_or a i 0 ≡ get_or b i 0
    by zero l = eqb-true _ _ (each _ e 0)
    by (suc zero) l = eqb-true _ _ (each _ e 1)
    by (suc (suc zero)) l = eqb-true _ _ (each _ e 2)
    by (suc (suc (suc zero))) l = eqb-true _ _ (each _ e 3)
    by (suc (suc (suc (suc i)))) l = absurd (omega (arith, m))
