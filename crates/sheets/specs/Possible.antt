-- What is added leaves a possible sheet. That what is entered does, and that each possible sheet is had by some runs, stands in entries (Reached.antt).
-- Assumes nothing.
use Rattle.std.specs.Prelude.{◌≡◌, ℕ, ◌+◌, ◌≤◌, Bool, true, false, ◌&&◌, ◌||◌, ◌==◌, nat_le, slice_index, refl}
use Rattle.std.proofs.Common.{sym, ◌∙◌, arith, leb-true, leb-false, le-leb, eqb-true, eq-eqb, ne_eqb}
use Rattle.std.proofs.lemmas.Bool.{eqb-false}
use Rattle.choices.specs.Choice.{pick_cases}
use Rattle.choices.specs.Tests.{by_test, and_left, and_right, or_cases}
use Rattle.sheets.specs.declared.Sheet.{Sheet}
use Rattle.sheets.specs.Sheets.{Entered, good, blank, plus, all_fit, add_of, any_run, possible}

-- ---- by numbers

or_right : (a b : Bool) → b ≡ true → a || b ≡ true
or_right true b e = refl
or_right false b e = e

pub and_both : (a b : Bool) → a ≡ true → b ≡ true → a && b ≡ true
and_both a b e f = rw (e, f)

-- a second number only with a first
abbrev only : ℕ → ℕ → Bool
only n m = nat_le 1 n || m == 0

only_sum : (n m n' m' : ℕ) → only n m ≡ true → only n' m' ≡ true → only (n + n') (m + m') ≡ true
only_sum n m n' m' e f =
    or_cases (nat_le 1 n) (m == 0) e (λ p. let h = leb-true 1 n p in some (omega arith))
    (λ p. or_cases (nat_le 1 n') (m' == 0) f (λ q. let h = leb-true 1 n' q in some (omega arith))
    (λ q. let z = eqb-true m 0 p in let y = eqb-true m' 0 q in or_right (nat_le 1 (n + n')) (m + m' == 0) (eq-eqb (m + m') 0 (omega arith))))
  where
    some : 1 ≤ n + n' → only (n + n') (m + m') ≡ true
    some h = rw (le-leb 1 (n + n') h)

or_sum : (a b : ℕ) → nat_le 1 a || nat_le 1 b ≡ nat_le 1 (a + b)
or_sum a b =
    by_test (nat_le 1 a)
    (λ p. let h = leb-true 1 a p in rw (p, le-leb 1 (a + b) (omega arith)))
    (λ p. let h = leb-false 1 a p in let e : a + b ≡ b = omega arith in rw (p, e))

both_none : (a b : ℕ) → (a == 0) && (b == 0) ≡ (a + b == 0)
both_none a b =
    by_test (a == 0)
    (λ p. let z = eqb-true a 0 p in let e : a + b ≡ b = omega arith in rw (p, e))
    (λ p. let n = eqb-false a 0 p in rw (p, ne_eqb (a + b) 0 (λ e. n (omega arith))))

-- all runs of a sheet
abbrev pub runs_in : Sheet → ℕ
runs_in s =
    slice_index s.runs 0 + slice_index s.runs 1 + slice_index s.runs 2 + slice_index s.runs 3 + slice_index s.runs 4 + slice_index s.runs 5 + slice_index s.runs 6
    + slice_index s.runs 7

pub any_is : (s : Sheet) → any_run s ≡ nat_le 1 (runs_in s)
any_is s = some (slice_index s.runs 0) (slice_index s.runs 1) (slice_index s.runs 2) (slice_index s.runs 3) (slice_index s.runs 4) (slice_index s.runs 5) (slice_index s.runs 6) (slice_index s.runs 7)
  where
    some : (a b c d e f g h : ℕ) → nat_le 1 a || nat_le 1 b || nat_le 1 c || nat_le 1 d || nat_le 1 e || nat_le 1 f || nat_le 1 g || nat_le 1 h ≡ nat_le 1 (a + b + c + d + e + f + g + h)
    some a b c d e f g h =
        rw (
          or_sum a b,
          or_sum (a + b) c,
          or_sum (a + b + c) d,
          or_sum (a + b + c + d) e,
          or_sum (a + b + c + d + e) f,
          or_sum (a + b + c + d + e + f) g,
          or_sum (a + b + c + d + e + f + g) h,
        )

-- by the numbers alone
abbrev pub kept : Sheet → Bool
kept s = only (good s) s.blocks

abbrev pub sent : Sheet → Bool
sent s = only (runs_in s) (s.commands + s.failed)

pub possible_is : (s : Sheet) → possible s ≡ kept s && sent s
unfolding possible
possible_is s = rw (any_is s, both_none s.commands s.failed)

-- ---- what leaves one

sum_runs : (a b : Sheet) → runs_in (plus a b) ≡ runs_in a + runs_in b
unfolding plus
sum_runs a b = omega arith

sum_rest : (a b : Sheet) → (plus a b).commands + (plus a b).failed ≡ a.commands + a.failed + (b.commands + b.failed)
unfolding plus
sum_rest a b = omega arith

sum_good : (a b : Sheet) → only (good a) a.blocks ≡ true → only (good b) b.blocks ≡ true → only (good (plus a b)) (plus a b).blocks ≡ true
unfolding plus
sum_good a b = only_sum (good a) a.blocks (good b) b.blocks

-- two such sheets added
pub plus_possible : (a b : Sheet) → possible a ≡ true → possible b ≡ true → possible (plus a b) ≡ true
plus_possible a b e f =
    let p = sym (possible_is a) ∙ e in
    let q = sym (possible_is b) ∙ f in
    let rest = only_sum (runs_in a) (a.commands + a.failed) (runs_in b) (b.commands + b.failed) (and_right (kept a) (sent a) p) (and_right (kept b) (sent b) q) in
    possible_is (plus a b)
    ∙ and_both (kept (plus a b)) (sent (plus a b)) (sum_good a b (and_left (kept a) (sent a) p) (and_left (kept b) (sent b) q))
    (rw (sum_runs a b, sum_rest a b) rest)

pub blank_possible : possible blank ≡ true
unfolding possible
blank_possible = refl

-- and so whatever an addition leaves
pub add_possible : (s other : Sheet) → possible s ≡ true → possible other ≡ true → possible (add_of s other).sheet ≡ true
unfolding add_of
add_possible s other p q = pick_cases (λ (x : Entered). possible x.sheet ≡ true) (all_fit s other) (λ e. plus_possible s other p q) (λ e. p)
