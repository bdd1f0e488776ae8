-- What the code's calls come to, one after another.
-- Assumes nothing.
use Rattle.std.specs.Prelude.{◌≡◌, ℕ, ◌+◌, ◌%◌, ◌^◌, Bool, ◌&&◌, List, [], ◌∷◌, ◌==◌, length, slice_index, refl}
use Rattle.std.specs.List.{fold}
use Rattle.std.proofs.Common.{ap, ◌∙◌, arith}
use Rattle.std.proofs.Math.Nat.{mod-add-mod}
use mir.Val.{bool_byte}
use Rattle.choices.specs.Choice.{one}
use Rattle.choices.specs.Tests.{holds}
use Rattle.copies.specs.Parts.{zeros, put_at}
use Rattle.littleendian.specs.Numbers.{bytes_of, value_at}
use Rattle.littleendian.specs.Puts.{then}
use Rattle.arrays.specs.Arrays.{numbers_of, values_at}
use Rattle.sheets.specs.declared.Sheet.{Sheet}
use Rattle.sheets.specs.Sheets.{Mean, each_of, possible}
use Rattle.sheets.specs.Steps.{wrap, number_is, eight_of}
use Rattle.sheet_layout.specs.Layout.{mark, eights_of, eights_at, total, totals, check_of, sheet_bytes, sheet_at, sheet_intact, mean_bytes}

-- ---- writing

-- eight numbers
pub eights_are : (a : List ℕ) {b0 b1 b2 b3 b4 b5 b6 b7 : List ℕ}
    → b0 ≡ put_at (zeros 64) 0 (bytes_of 8 (slice_index a 0)) → b1 ≡ put_at b0 8 (bytes_of 8 (slice_index a 1)) → b2 ≡ put_at b1 16 (bytes_of 8 (slice_index a 2))
    → b3 ≡ put_at b2 24 (bytes_of 8 (slice_index a 3)) → b4 ≡ put_at b3 32 (bytes_of 8 (slice_index a 4)) → b5 ≡ put_at b4 40 (bytes_of 8 (slice_index a 5))
    → b6 ≡ put_at b5 48 (bytes_of 8 (slice_index a 6)) → b7 ≡ put_at b6 56 (bytes_of 8 (slice_index a 7))
    → b7 ≡ eights_of a
unfolding put_at
eights_are a e0 e1 e2 e3 e4 e5 e6 e7 =
    then 56 (bytes_of 8 (slice_index a 7))
    (then 48 (bytes_of 8 (slice_index a 6))
    (then 40 (bytes_of 8 (slice_index a 5))
    (then 32 (bytes_of 8 (slice_index a 4))
    (then 24 (bytes_of 8 (slice_index a 3)) (then 16 (bytes_of 8 (slice_index a 2)) (then 8 (bytes_of 8 (slice_index a 1)) e0 e1) e2) e3)
    e4)
    e5)
    e6)
    e7

-- a sum, number by number, each modulo 2^64
abbrev stepwise : ℕ → List ℕ → ℕ
stepwise a [] = a
stepwise a (x ∷ xs) = stepwise (wrap a x) xs

abbrev tail : List ℕ → List ℕ
tail [] = []
tail (x ∷ xs) = xs

-- is the whole sum, modulo 2^64
stepwise_is : (a x : ℕ) (xs : List ℕ) → stepwise a (x ∷ xs) ≡ (a + total (x ∷ xs)) % 2 ^ 64
stepwise_is a x [] = ap (λ (n : ℕ). n % 2 ^ 64) (omega arith)
stepwise_is a x (y ∷ ys) =
    stepwise_is (wrap a x) y ys
    ∙ mod-add-mod (a + x) (2 ^ 64) (total (y ∷ ys))
    ∙ ap (λ (n : ℕ). n % 2 ^ 64) (omega arith)

-- the mark and the runs, and then the other totals
pub check_by_turns : (s : Sheet) {runs blocks commands failed : ℕ} → runs ≡ stepwise mark (each_of (λ (i : ℕ). slice_index s.runs i))
    → blocks ≡ wrap runs s.blocks → commands ≡ wrap blocks s.commands → failed ≡ wrap commands s.failed
    → failed ≡ check_of s
unfolding check_of
check_by_turns s r k c f =
    f ∙ onto s.failed (c ∙ onto s.commands (k ∙ onto s.blocks r)) ∙ stepwise_is mark (slice_index s.runs 0) (tail (totals s))
  where
    onto : (x : ℕ) {a b : ℕ} → a ≡ b → wrap a x ≡ wrap b x
    onto x e = ap (λ (n : ℕ). wrap n x) e

-- the mark and every total, one after another
pub check_is : (s : Sheet) {a0 a1 a2 a3 a4 a5 a6 a7 blocks commands failed : ℕ}
    → a0 ≡ (mark + slice_index s.runs 0) % 2 ^ 64 → a1 ≡ (a0 + slice_index s.runs 1) % 2 ^ 64 → a2 ≡ (a1 + slice_index s.runs 2) % 2 ^ 64
    → a3 ≡ (a2 + slice_index s.runs 3) % 2 ^ 64 → a4 ≡ (a3 + slice_index s.runs 4) % 2 ^ 64 → a5 ≡ (a4 + slice_index s.runs 5) % 2 ^ 64
    → a6 ≡ (a5 + slice_index s.runs 6) % 2 ^ 64 → a7 ≡ (a6 + slice_index s.runs 7) % 2 ^ 64
    → blocks ≡ (a7 + s.blocks) % 2 ^ 64 → commands ≡ (blocks + s.commands) % 2 ^ 64 → failed ≡ (commands + s.failed) % 2 ^ 64
    → failed ≡ check_of s
unfolding check_of
check_is s e0 e1 e2 e3 e4 e5 e6 e7 k c f =
    let a1 = e1 ∙ onto (slice_index s.runs 1) e0 in
    let a2 = e2 ∙ onto (slice_index s.runs 2) a1 in
    let a3 = e3 ∙ onto (slice_index s.runs 3) a2 in
    let a4 = e4 ∙ onto (slice_index s.runs 4) a3 in
    let a5 = e5 ∙ onto (slice_index s.runs 5) a4 in
    let a6 = e6 ∙ onto (slice_index s.runs 6) a5 in
    let a7 = e7 ∙ onto (slice_index s.runs 7) a6 in
    let a9 = c ∙ onto s.commands (k ∙ onto s.blocks a7) in
    f ∙ onto s.failed a9 ∙ stepwise_is mark (slice_index s.runs 0) (tail (totals s))
  where
    onto : (x : ℕ) {a b : ℕ} → a ≡ b → (a + x) % 2 ^ 64 ≡ (b + x) % 2 ^ 64
    onto x e = ap (λ (n : ℕ). (n + x) % 2 ^ 64) e

-- the runs added one after another
pub runs_by_fold : (n : List ℕ) → length n ≡ 8 → fold wrap mark n ≡ stepwise mark (each_of (λ (i : ℕ). slice_index n i))
runs_by_fold n l = ap (fold wrap mark) (eight_of n l)

-- eight numbers, as one put of all
pub put_eight : (a d o : List ℕ) (at : ℕ) → length a ≡ 8 → o ≡ put_at d at (numbers_of 8 (λ (x : ℕ). x) a) → o ≡ put_at d at (eights_of a)
put_eight a d o at l e = e ∙ ap (λ (x : List ℕ). put_at d at (numbers_of 8 (λ (y : ℕ). y) x)) (eight_of a l)

-- a sheet
pub sheet_is : (s : Sheet) {check : ℕ} {r o p q t u v : List ℕ} → r ≡ eights_of s.runs → check ≡ check_of s
    → o ≡ put_at (zeros 104) 0 (bytes_of 8 mark) → p ≡ put_at o 8 r → q ≡ put_at p 72 (bytes_of 8 s.blocks) → t ≡ put_at q 80 (bytes_of 8 s.commands)
    → u ≡ put_at t 88 (bytes_of 8 s.failed) → v ≡ put_at u 96 (bytes_of 8 check)
    → v ≡ sheet_bytes s
unfolding put_at sheet_bytes
sheet_is s {o = o} {u = u} er ec e1 e2 e3 e4 e5 e6 =
    then 96 (bytes_of 8 (check_of s))
    (then 88 (bytes_of 8 s.failed)
    (then 80 (bytes_of 8 s.commands)
    (then 72 (bytes_of 8 s.blocks) (then 8 (eights_of s.runs) e1 (e2 ∙ ap (λ (l : List ℕ). put_at o 8 l) er)) e3)
    e4)
    e5)
    (e6 ∙ ap (λ (n : ℕ). put_at u 96 (bytes_of 8 n)) ec)

-- a mean
pub mean_by_test : (m : Mean) {o p q : List ℕ} → o ≡ put_at (zeros 24) 0 (bytes_of 8 (bool_byte m.given))
    → p ≡ put_at o 8 (bytes_of 8 m.whole) → q ≡ put_at p 16 (bytes_of 8 m.rest)
    → q ≡ mean_bytes m
unfolding put_at mean_bytes
mean_by_test m e1 e2 e3 =
    then 16 (bytes_of 8 m.rest) (then 8 (bytes_of 8 m.whole) (e1 ∙ ap (λ (n : ℕ). put_at (zeros 24) 0 (bytes_of 8 n)) (number_is m.given)) e2) e3

-- and where the test comes as a number
pub mean_is : (m : Mean) {given : ℕ} {o p q : List ℕ} → given ≡ one m.given → o ≡ put_at (zeros 24) 0 (bytes_of 8 given)
    → p ≡ put_at o 8 (bytes_of 8 m.whole) → q ≡ put_at p 16 (bytes_of 8 m.rest)
    → q ≡ mean_bytes m
unfolding put_at mean_bytes
mean_is m eg e1 e2 e3 =
    then 16 (bytes_of 8 m.rest) (then 8 (bytes_of 8 m.whole) (e1 ∙ ap (λ (n : ℕ). put_at (zeros 24) 0 (bytes_of 8 n)) eg) e2) e3

-- ---- reading

pub eights_at_lem : (b : List ℕ) {n0 n1 n2 n3 n4 n5 n6 n7 : ℕ}
    → n0 ≡ value_at 8 8 b → n1 ≡ value_at 8 16 b → n2 ≡ value_at 8 24 b → n3 ≡ value_at 8 32 b → n4 ≡ value_at 8 40 b → n5 ≡ value_at 8 48 b
    → n6 ≡ value_at 8 56 b → n7 ≡ value_at 8 64 b
    → n0 ∷ n1 ∷ n2 ∷ n3 ∷ n4 ∷ n5 ∷ n6 ∷ n7 ∷ [] ≡ eights_at 8 b
eights_at_lem b e0 e1 e2 e3 e4 e5 e6 e7 = rw (e0, e1, e2, e3, e4, e5, e6, e7)

pub read_is : (b : List ℕ) {runs : List ℕ} {blocks commands failed : ℕ} → runs ≡ eights_at 8 b → blocks ≡ value_at 8 72 b → commands ≡ value_at 8 80 b
    → failed ≡ value_at 8 88 b → record { runs = runs; blocks = blocks; commands = commands; failed = failed } ≡ sheet_at b
unfolding sheet_at
read_is b r k c f = rw (r, k, c, f)

-- the tests, each number being read apart
pub intact_is : (b : List ℕ) {s : Sheet} {m k check : ℕ} {can : Bool} → s ≡ sheet_at b → m ≡ value_at 8 0 b → k ≡ value_at 8 96 b → check ≡ check_of s → can ≡ possible s
    → (m == mark) && k == check && can ≡ sheet_intact b
unfolding sheet_intact holds
intact_is b es em ek ec ep = rw (ep, ec, ek, em, es)

pub eight_values : (b : List ℕ) → values_at 8 (λ (n : ℕ). n) 8 8 b ≡ eights_at 8 b
eight_values b = refl
