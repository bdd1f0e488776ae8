-- What the rule of last blocks says of the numbers, and that none of the four is greater than the greatest.
-- Assumes nothing.
use Rattle.std.specs.Prelude.{ℕ, zero, suc, ◌≤◌, ◌≡◌, refl, List, Bool, true, false, ◌&&◌, ◌||◌, get_or, ltb, leb, eqb}
use Rattle.std.proofs.Common.{arith, leb-true, ltb-true, eqb-true, le-leb, lt-ltb, eq-eqb}
use Rattle.choices.specs.Choice.{larger, larger_left, larger_right}
use Rattle.choices.specs.Tests.{holds, each, and_left, and_right, or_cases, clash}
use Rattle.pages.specs.Pages.{most3, most4}
use Rattle.lastblocks.specs.LastBlocks.{area4_ok, last_tests, last_ok, greatest_of}

-- the rule as facts
pub record LastRule (da4s : Bool) (a : List ℕ) : Type 0 where
  pub one_two : get_or a 0 0 ≤ get_or a 1 0
  pub two_three : get_or a 1 0 ≤ get_or a 2 0
  pub three_most : get_or a 2 0 ≤ most3
  pub three_four : da4s ≡ true → get_or a 2 0 ≤ get_or a 3 0
  pub four_most : get_or a 3 0 ≤ most4
  pub four_none : da4s ≡ false → get_or a 3 0 ≡ 0
  pub four_some : get_or a 2 0 ≡ 0 → get_or a 3 0 ≡ 0

record Area4Rule (da4s : Bool) (a3 a4 : ℕ) : Type 0 where
  least : da4s ≡ true → a3 ≤ a4
  most : a4 ≤ most4
  none : da4s ≡ false → a4 ≡ 0
  some : a3 ≡ 0 → a4 ≡ 0

area4_rule : (da4s : Bool) (a3 a4 : ℕ) → area4_ok da4s a3 a4 ≡ true → Area4Rule da4s a3 a4
area4_rule true a3 a4 e =
    let ab = and_left (leb a3 a4 && leb a4 most4) (eqb a4 0 || ltb 0 a3) e in
    record {
      least = λ p. leb-true a3 a4 (and_left (leb a3 a4) (leb a4 most4) ab);
      most = leb-true a4 most4 (and_right (leb a3 a4) (leb a4 most4) ab);
      none = λ p. clash refl p;
      some = λ z. or_cases (eqb a4 0) (ltb 0 a3) (and_right (leb a3 a4 && leb a4 most4) (eqb a4 0 || ltb 0 a3) e) (λ p. eqb-true a4 0 p) (λ p. let q = ltb-true 0 a3 p in absurd (omega arith));
    }
area4_rule false a3 a4 e =
    let z = eqb-true a4 0 e in
    record { least = λ p. clash p refl; most = omega arith; none = λ p. z; some = λ p. z }

pub last_rule : (da4s : Bool) (a : List ℕ) → last_ok da4s a ≡ true → LastRule da4s a
unfolding last_ok
last_rule da4s a e =
    let four = area4_rule da4s (get_or a 2 0) (get_or a 3 0) (each (last_tests da4s a) e 2) in
    record {
      one_two = leb-true _ _ (each (last_tests da4s a) e 0);
      two_three = leb-true _ _ (and_left _ (leb (get_or a 2 0) most3) (each (last_tests da4s a) e 1));
      three_most = leb-true _ _ (and_right (leb (get_or a 1 0) (get_or a 2 0)) _ (each (last_tests da4s a) e 1));
      three_four = four.least;
      four_most = four.most;
      four_none = four.none;
      four_some = four.some;
    }

some_test : (a3 a4 : ℕ) → (a3 ≡ 0 → a4 ≡ 0) → eqb a4 0 || ltb 0 a3 ≡ true
some_test zero a4 h = rw (eq-eqb a4 0 (h refl))
some_test (suc n) a4 h = or_true (eqb a4 0) (ltb 0 (suc n)) (lt-ltb 0 (suc n) (omega arith))
  where
    or_true : (a b : Bool) → b ≡ true → a || b ≡ true
    or_true true b e = refl
    or_true false b e = e

area4_test : (da4s : Bool) (a3 a4 : ℕ) → (da4s ≡ true → a3 ≤ a4) → a4 ≤ most4 → (da4s ≡ false → a4 ≡ 0) → (a3 ≡ 0 → a4 ≡ 0)
    → area4_ok da4s a3 a4 ≡ true
area4_test true a3 a4 p q r s = rw (le-leb a3 a4 (p refl), le-leb a4 most4 q) (some_test a3 a4 s)
area4_test false a3 a4 p q r s = eq-eqb a4 0 (r refl)

pub rule_last : (da4s : Bool) (a : List ℕ) → LastRule da4s a → last_ok da4s a ≡ true
unfolding last_ok holds
rule_last da4s a r =
    rw (le-leb (get_or a 0 0) (get_or a 1 0) r.one_two, le-leb (get_or a 1 0) (get_or a 2 0) r.two_three, le-leb (get_or a 2 0) most3 r.three_most)
    (area4_test da4s (get_or a 2 0) (get_or a 3 0) r.three_four r.four_most r.four_none r.four_some)

-- none of the four is greater than the greatest
pub record Within (a : List ℕ) (n : ℕ) : Type 0 where
  pub one : get_or a 0 0 ≤ n
  pub two : get_or a 1 0 ≤ n
  pub three : get_or a 2 0 ≤ n
  pub four : get_or a 3 0 ≤ n

pub greatest_within : (a : List ℕ) → Within a (greatest_of a)
unfolding greatest_of
greatest_within a =
    let p = larger_left (get_or a 2 0) (get_or a 3 0) in
    let q = larger_right (get_or a 2 0) (get_or a 3 0) in
    let r = larger_left (get_or a 1 0) (larger (get_or a 2 0) (get_or a 3 0)) in
    let s = larger_right (get_or a 1 0) (larger (get_or a 2 0) (get_or a 3 0)) in
    let t = larger_left (get_or a 0 0) (larger (get_or a 1 0) (larger (get_or a 2 0) (get_or a 3 0))) in
    let u = larger_right (get_or a 0 0) (larger (get_or a 1 0) (larger (get_or a 2 0) (get_or a 3 0))) in
    record { one = t; two = omega arith; three = omega arith; four = omega arith }
