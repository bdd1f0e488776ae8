-- Capabilities read back to what they were, and a byte of five bits is the byte of the capabilities that it says.
-- Assumes nothing.
use Rattle.std.specs.Prelude.{ℕ, zero, suc, ◌+◌, ◌*◌, ◌/◌, ◌%◌, ◌≤◌, ◌<◌, ◌≡◌, refl, Bool, true, false, leb, eqb}
use Rattle.std.proofs.Common.{arith, mod-eq_of_lt, le-leb, leb-true, eqb-true}
use Rattle.std.proofs.Math.Nat.{div-div-eq-div-mul}
use Rattle.std.proofs.lemmas.Bool.{eqb-false}
use Rattle.choices.specs.Choice.{pick, one}
use Rattle.choices.specs.Tests.{by_test}
use Rattle.pages.specs.declared.Caps.{Caps}
use Rattle.shared_layouts.specs.Layouts.{most_caps, caps_byte, cap_bit, caps_of}

pub one_most : (t : Bool) → one t ≤ 1
one_most true = omega arith
one_most false = omega arith

one_times : (k : ℕ) (t : Bool) → pick t k 0 ≡ k * one t
one_times k true = omega arith
one_times k false = omega arith

pub one_back : (t : Bool) → eqb (one t) 1 ≡ t
one_back true = refl
one_back false = refl

-- five bits as a sum
record FiveBits (c : Caps) : Type 0 where
  sum : caps_byte c ≡ one c.extended + 2 * one c.telemetry + 4 * one c.da4s + 8 * one c.etdas + 16 * one c.mcdas
  extended : one c.extended ≤ 1
  telemetry : one c.telemetry ≤ 1
  da4s : one c.da4s ≤ 1
  etdas : one c.etdas ≤ 1
  mcdas : one c.mcdas ≤ 1

five_bits : (c : Caps) → FiveBits c
five_bits c = record {
  sum = rw (one_times 2 c.telemetry, one_times 4 c.da4s, one_times 8 c.etdas, one_times 16 c.mcdas);
  extended = one_most c.extended;
  telemetry = one_most c.telemetry;
  da4s = one_most c.da4s;
  etdas = one_most c.etdas;
  mcdas = one_most c.mcdas;
}

pub caps_most : (c : Caps) → leb (caps_byte c) most_caps ≡ true
caps_most c = let f = five_bits c in le-leb (caps_byte c) most_caps (omega arith)

cap_back : (c : Caps) (d : ℕ) (t : Bool) → d % 2 ≡ one t → cap_bit (caps_byte c) d ≡ t
cap_back c d t e = rw (caps_most c, e) (one_back t)

pub caps_back : (c : Caps) → caps_of (caps_byte c) ≡ c
unfolding caps_of
caps_back c =
    let f = five_bits c in
    rw (
      cap_back c (caps_byte c) c.extended (omega arith),
      cap_back c (caps_byte c / 2) c.telemetry (omega arith),
      cap_back c (caps_byte c / 4) c.da4s (omega arith),
      cap_back c (caps_byte c / 8) c.etdas (omega arith),
      cap_back c (caps_byte c / 16) c.mcdas (omega arith),
    )

bit_kept : (k d : ℕ) → pick (eqb (d % 2) 1) k 0 ≡ k * (d % 2)
bit_kept k d =
    by_test (eqb (d % 2) 1)
    (λ p. let e = eqb-true (d % 2) 1 p in rw p (rw e (omega arith)))
    (λ q. let n = eqb-false (d % 2) 1 q in let e : d % 2 ≡ 0 = omega arith in rw q (rw e (omega arith)))

halves : (x : ℕ) → x % 2 + 2 * (x / 2) ≡ x
halves x = omega arith

-- a number below 32 is the sum of its five bits
five_halves : (b : ℕ) → b ≤ most_caps → 1 * (b % 2) + 2 * (b / 2 % 2) + 4 * (b / 4 % 2) + 8 * (b / 8 % 2) + 16 * (b / 16 % 2) ≡ b
five_halves b h =
    let q2 : b / 2 % 2 + 2 * (b / 4) ≡ b / 2 = rw (← div-div-eq-div-mul b 2 2) (halves (b / 2)) in
    let q4 : b / 4 % 2 + 2 * (b / 8) ≡ b / 4 = rw (← div-div-eq-div-mul b 4 2) (halves (b / 4)) in
    let q8 : b / 8 % 2 + 2 * (b / 16) ≡ b / 8 = rw (← div-div-eq-div-mul b 8 2) (halves (b / 8)) in
    let top : b / 16 < 2 = omega arith in
    let q16 : b / 16 % 2 ≡ b / 16 = mod-eq_of_lt top in
    sum (b % 2) (b / 2) (b / 2 % 2) (b / 4) (b / 4 % 2) (b / 8) (b / 8 % 2) (b / 16) (b / 16 % 2) (halves b) q2 q4 q8 q16
  where
    sum : (r1 d2 r2 d4 r4 d8 r8 d16 r16 : ℕ) {x : ℕ} → r1 + 2 * d2 ≡ x → r2 + 2 * d4 ≡ d2 → r4 + 2 * d8 ≡ d4 → r8 + 2 * d16 ≡ d8 → r16 ≡ d16
        → 1 * r1 + 2 * r2 + 4 * r4 + 8 * r8 + 16 * r16 ≡ x
    sum r1 d2 r2 d4 r4 d8 r8 d16 r16 e1 e2 e4 e8 e16 = omega arith

pub caps_kept : (b : ℕ) → leb b most_caps ≡ true → caps_byte (caps_of b) ≡ b
unfolding caps_of
caps_kept b e =
    rw (e, bit_kept 1 b, bit_kept 2 (b / 2), bit_kept 4 (b / 4), bit_kept 8 (b / 8), bit_kept 16 (b / 16)) (five_halves b (leb-true b most_caps e))

pub one_kept : (b : ℕ) → leb b 1 ≡ true → one (eqb b 1) ≡ b
one_kept zero e = refl
one_kept (suc zero) e = refl
one_kept (suc (suc n)) e = let h = leb-true (suc (suc n)) 1 e in absurd (omega arith)
