-- A record across the C boundary: what bytes say, and what fresh, command, capture and drop write, is all that the types say, and so the record that a call's
-- bytes say is the record that the call's definition gave.
-- Assumes nothing.
use Rattle.std.specs.Prelude.{ℕ, zero, suc, ◌/◌, ◌≤◌, ◌<◌, ◌≡◌, refl, List, [], ◌∷◌, ◌++◌, true, ◌||◌, length, get_or, leb, eqb}
use Rattle.std.proofs.Math.Path.{sym}
use Rattle.std.proofs.Common.{ap, arith, length-take, length-drop, leb-true, eqb-true}
use Rattle.std.proofs.lemmas.Bool.{eqb-false}
use Rattle.choices.specs.Choice.{pick_cases}
use Rattle.choices.specs.Tests.{by_test, each, and_right, or_cases}
use Rattle.copies.specs.Parts.{zeros}
use Rattle.littleendian.specs.Numbers.{bytes_of}
use Rattle.arrays.specs.Arrays.{fours_of}
use Rattle.littleendian.specs.Back.{Bytes, value_small}
use Rattle.arrays.specs.Back.{fours_small}
use Rattle.answers.specs.Answers.{success}
use Rattle.pages.specs.declared.Caps.{Caps}
use Rattle.words.specs.declared.Words.{Words}
use Rattle.records.specs.declared.Identity.{Identity}
use Rattle.records.specs.Records.{identity_ok, fresh_of}
use Rattle.records.specs.Back.{Typed, fresh_typed}
use Rattle.controller.specs.Controller.{World, world, Candidate, Outcome, command_of, capture_of, drop_of}
use Rattle.controller.proofs.Laws.{command_typed, captured_typed, dropped_typed, refusal_changes_nothing, capture_refusal_changes_nothing, drop_refusal_changes_nothing}
use Rattle.shared_layouts.specs.Layouts.{most_caps, caps_byte, caps_of}
use Rattle.shared_layouts.specs.Back.{caps_most}
use Rattle.record_layout.specs.Layout.{record_marks, record_bytes, record_at, record_intact}
use Rattle.record_layout.specs.Back.{record_back}
use Rattle.controller_boundary.specs.Boundary.{fresh_ok, fresh_bytes, record_after, command_at, capture_at, drop_at}

-- ---- what bytes say

-- the record that 300 bytes say is all that its types say
pub record_typed : (b : List ℕ) → length b ≡ 300 → Bytes b → Typed (record_at b)
unfolding record_at Bytes
record_typed b l t = record {
  sized = record {
    host_four = refl;
    host_reason = simp (length-take, length-drop) (omega arith);
    controller_four = refl;
    controller_reason = simp (length-take, length-drop) (omega arith);
  };
  ranged = record {
    oui = value_small 4 8 b t;
    host_last = (fours_small 12 b t).each;
    controller_last = (fours_small 28 b t).each;
    host_generation = t 3;
    controller_generation = t 4;
  };
}

-- ---- call after call

-- The record that a fresh one's bytes say is the fresh one.
pub fresh_chained : (caps : ℕ) (identity : Identity) → fresh_ok caps identity ≡ true → record_at (fresh_bytes caps identity) ≡ fresh_of (caps_of caps) identity
unfolding fresh_bytes fresh_ok
fresh_chained caps identity e =
    rw e (record_back (fresh_of (caps_of caps) identity) (fresh_typed (caps_of caps) identity (and_right (leb caps most_caps) (identity_ok identity) e)))

module _ (r h k : List ℕ) (t : Typed (record_at r)) where
  abbrev w : World
  w = world (record_at r) h k

  -- what an outcome leaves of a record's bytes says the outcome's record
  after_is : (o : Outcome) → Typed o.world.own → ((o.answer ≡ success → ⊥) → record_at r ≡ o.world.own)
      → record_at (record_after r o.answer o.world.own) ≡ o.world.own
  after_is o y f =
      by_test (eqb o.answer success)
      (λ e. rw e (record_back o.world.own y))
      (λ e. rw e (f (eqb-false _ _ e)))

  -- The record that a command's bytes say is the record that the command gave.
  pub command_chained : (candidate : Candidate) (words : Words) (buf : List ℕ) → record_intact r ≡ true
      → record_at (command_at r h k candidate words buf).own ≡ (command_of w candidate words buf).world.own
  unfolding command_at
  command_chained candidate words buf p =
      rw p (after_is (command_of w candidate words buf) (command_typed w candidate words buf t)
      (λ n. sym (ap (λ (x : World). x.own) (refusal_changes_nothing w candidate words buf n).0)))

  -- And so with a capture.
  pub capture_chained : (candidate : Candidate) → record_intact r ≡ true → record_at (capture_at r h k candidate).own ≡ (capture_of w candidate).world.own
  unfolding capture_at
  capture_chained candidate p =
      rw p (after_is (capture_of w candidate) (captured_typed w candidate t)
      (λ n. sym (ap (λ (x : World). x.own) (capture_refusal_changes_nothing w candidate n))))

  -- And with a drop.
  pub drop_chained : record_intact r ≡ true → record_at (drop_at r h k).own ≡ (drop_of w).world.own
  unfolding drop_at
  drop_chained p =
      rw p (after_is (drop_of w) (dropped_typed w t) (λ n. sym (ap (λ (x : World). x.own) (drop_refusal_changes_nothing w n))))

-- ---- a fresh record is 300 bytes

bytes_append : (a b : List ℕ) → Bytes a → Bytes b → Bytes (a ++ b)
unfolding Bytes
bytes_append [] b p q i = q i
bytes_append (x ∷ a) b p q zero = p zero
bytes_append (x ∷ a) b p q (suc i) = bytes_append a b (λ j. p (suc j)) q i

bytes_of_lem : (n x : ℕ) → Bytes (bytes_of n x)
unfolding Bytes
bytes_of_lem zero x i = omega arith
bytes_of_lem (suc n) x zero = omega arith
bytes_of_lem (suc n) x (suc i) = bytes_of_lem n (x / 256) i

bytes_zeros : (n : ℕ) → Bytes (zeros n)
unfolding Bytes
bytes_zeros zero i = omega arith
bytes_zeros (suc n) zero = omega arith
bytes_zeros (suc n) (suc i) = bytes_zeros n i

fours_bytes : (a : List ℕ) → Bytes (fours_of a)
fours_bytes a =
    bytes_append _ _ (bytes_append _ _ (bytes_append _ _ (bytes_of_lem 4 (get_or a 0 0)) (bytes_of_lem 4 (get_or a 1 0))) (bytes_of_lem 4 (get_or a 2 0))) (bytes_of_lem 4 (get_or a 3 0))

scope_small : (s : ℕ) → eqb s 1 || eqb s 2 ≡ true → s < 256
scope_small s e = or_cases (eqb s 1) (eqb s 2) e (λ p. omega (arith, eqb-true s 1 p)) (λ p. omega (arith, eqb-true s 2 p))

marks_bytes : (caps : Caps) (identity : Identity) → identity_ok identity ≡ true → Bytes (record_marks (fresh_of caps identity))
unfolding Bytes fresh_of identity_ok
marks_bytes caps identity e zero = let m : caps_byte caps ≤ most_caps = leb-true (caps_byte caps) most_caps (caps_most caps) in omega arith
marks_bytes caps identity e (suc zero) = scope_small identity.hostscope (each _ e 0)
marks_bytes caps identity e (suc (suc zero)) = scope_small identity.controllerscope (each _ e 1)
marks_bytes caps identity e (suc (suc (suc i))) = bytes_zeros 5 i

-- and all of them are bytes
pub fresh_bytes_lem : (caps : ℕ) (identity : Identity) → Bytes (fresh_bytes caps identity)
unfolding fresh_bytes fresh_ok fresh_of record_bytes
fresh_bytes_lem caps identity =
    pick_cases Bytes (fresh_ok caps identity)
    (λ e.
    let m = marks_bytes (caps_of caps) identity (and_right (leb caps most_caps) (identity_ok identity) e) in
    let front = bytes_append _ _ (bytes_append _ _ (bytes_append _ _ m (bytes_of_lem 4 identity.oui)) (fours_bytes (zeros 4))) (fours_bytes (zeros 4)) in
    bytes_append _ _ (bytes_append _ _ front (bytes_zeros 128)) (bytes_zeros 128))
    (λ e. bytes_zeros 300)

pub fresh_long : (caps : ℕ) (identity : Identity) → length (fresh_bytes caps identity) ≡ 300
unfolding fresh_bytes fresh_of record_bytes
fresh_long caps identity = pick_cases (λ (l : List ℕ). length l ≡ 300) (fresh_ok caps identity) (λ e. refl) (λ e. refl)
