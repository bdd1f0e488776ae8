-- What the code's calls come to, one after another.
-- Assumes nothing.
use Rattle.std.specs.Prelude.{ℕ, ◌≡◌, [], Result, Bool, not, ◌&&◌}
use Rattle.std.proofs.Math.Path.{sym, ap}
use Rattle.std.proofs.Common.{◌∙◌}
use mathlib.Core.List.{List}
use Rattle.std.proofs.Math.Bool.{true, false}
use Rattle.std.proofs.Math.Dec.{leb}
use borrow.Author.Tests.{eq-eqb, ne_eqb, not-true, not-false}
use Rattle.choices.specs.Choice.{pick}
use Rattle.choices.specs.Tests.{by_test, clash}
use Rattle.copies.specs.Parts.{zeros}
use Rattle.answers.specs.Answers.{success, disagree, result_number}
use Rattle.answers.specs.declared.Refusal.{Refusal}
use Rattle.pages.specs.declared.Caps.{Caps}
use Rattle.words.specs.declared.Words.{Words}
use Rattle.records.specs.declared.Identity.{Identity}
use Rattle.records.specs.declared.Record.{Record}
use Rattle.records.specs.Records.{identity_ok, agrees_with, fresh_of}
use Rattle.records.specs.Back.{agreed, fresh_agrees}
use Rattle.verdicts.specs.Verdicts.{class_in}
use Rattle.controller.specs.Controller.{Candidate, world, outcome, record_left, command_of, capture_of, drop_of}
use Rattle.shared_layouts.specs.Layouts.{most_caps, caps_of}
use Rattle.record_layout.specs.Layout.{record_bytes, record_at, record_intact}
use Rattle.controller_boundary.specs.Boundary.{fresh_ok, fresh_bytes, record_after, command_answer, command_answer_of, command_at, capture_answer, capture_answer_of, capture_at, drop_answer, drop_answer_of, drop_at}

-- ---- a fresh record

-- a fresh record agrees with no stores where its identity is fine
fresh_known : (caps : Caps) (i : Identity) → agrees_with (fresh_of caps i) 0 0 ≡ identity_ok i
unfolding fresh_of
fresh_known caps i =
    by_test (identity_ok i)
    (λ p. fresh_agrees caps i 0 0 p ∙ sym p)
    (λ q. by_test (agrees_with (fresh_of caps i) 0 0) (λ p. clash (agreed (fresh_of caps i) 0 0 p).identity q) (λ p. p ∙ sym q))

module _ (caps : ℕ) (i : Identity) {c : Caps} {r : Record} {t : Bool} (ec : c ≡ caps_of caps) (er : r ≡ fresh_of c i) (et : t ≡ agrees_with r 0 0) where
  fresh_test : leb caps most_caps && t ≡ fresh_ok caps i
  unfolding fresh_ok
  fresh_test = ap (λ (b : Bool). leb caps most_caps && b) (et ∙ ap (λ (x : Record). agrees_with x 0 0) er ∙ fresh_known c i)

  pub fresh_is : {w : List ℕ} → leb caps most_caps && t ≡ true → w ≡ record_bytes r
      → (success ≡ pick (fresh_ok caps i) success disagree) × (w ≡ fresh_bytes caps i)
  unfolding fresh_bytes
  fresh_is p e =
      let q : fresh_ok caps i ≡ true = sym fresh_test ∙ p in
      (rw q, rw q (e ∙ ap record_bytes er ∙ ap (λ (x : Caps). record_bytes (fresh_of x i)) ec))

  pub fresh_is_not : leb caps most_caps && t ≡ false → (disagree ≡ pick (fresh_ok caps i) success disagree) × (zeros 300 ≡ fresh_bytes caps i)
  unfolding fresh_bytes
  fresh_is_not p =
      let q : fresh_ok caps i ≡ false = sym fresh_test ∙ p in
      (rw q, rw q)

-- ---- a command, a capture and a drop

pub kept_record : (r : List ℕ) (answer : ℕ) (after : Record) → (answer ≡ success → ⊥) → r ≡ record_after r answer after
kept_record r answer after n = rw (ne_eqb answer success n)

pub next_record : (r : List ℕ) (answer : ℕ) (after : Record) {w : List ℕ} → answer ≡ success → w ≡ record_bytes after → w ≡ record_after r answer after
next_record r answer after e w = rw (eq-eqb answer success e) w

module _ (r h k : List ℕ) (candidate : Candidate) where
  module _ (words : Words) (buf : List ℕ) where
    pub command_damaged : {t : Bool} → t ≡ record_intact r → not t ≡ true → command_answer disagree 0 r h buf ≡ command_at r h k candidate words buf
    unfolding command_at
    command_damaged e f = rw (sym e ∙ not-true _ f)

    pub command_done : {t : Bool} {z y : Record} {v : Words} {answer class : ℕ} {w host out : List ℕ} → t ≡ record_intact r → not t ≡ false
        → z ≡ record_at r → v ≡ words → outcome answer class (world y host k) out ≡ command_of (world z h k) candidate v buf
        → w ≡ record_after r answer y
        → command_answer answer class w host out ≡ command_at r h k candidate words buf
    unfolding command_at
    command_done {answer = answer} {class = class} {host = host} {out = out} e f z v o w =
        rw (sym e ∙ not-false _ f, ← z, ← v)
        (ap (λ (x : List ℕ). command_answer answer class x host out) w ∙ ap (command_answer_of r) o)

  pub capture_damaged : {t : Bool} → t ≡ record_intact r → not t ≡ true → capture_answer disagree r k ≡ capture_at r h k candidate
  unfolding capture_at
  capture_damaged e f = rw (sym e ∙ not-true _ f)

  pub capture_done : {t : Bool} {z y : Record} {answer class : ℕ} {w controller none : List ℕ} → t ≡ record_intact r → not t ≡ false
      → z ≡ record_at r → outcome answer class (world y h controller) none ≡ capture_of (world z h k) candidate → w ≡ record_after r answer y
      → capture_answer answer w controller ≡ capture_at r h k candidate
  unfolding capture_at
  capture_done {answer = answer} {controller = controller} e f z o w =
      rw (sym e ∙ not-false _ f, ← z) (ap (λ (x : List ℕ). capture_answer answer x controller) w ∙ ap (capture_answer_of r) o)

module _ (r h k : List ℕ) where
  pub drop_damaged : {t : Bool} → t ≡ record_intact r → not t ≡ true → drop_answer disagree r ≡ drop_at r h k
  unfolding drop_at
  drop_damaged e f = rw (sym e ∙ not-true _ f)

  pub drop_done : {t : Bool} {z y : Record} {answer class : ℕ} {w none : List ℕ} → t ≡ record_intact r → not t ≡ false
      → z ≡ record_at r → outcome answer class (world y h k) none ≡ drop_of (world z h k) → w ≡ record_after r answer y
      → drop_answer answer w ≡ drop_at r h k
  unfolding drop_at
  drop_done {answer = answer} e f z o w = rw (sym e ∙ not-false _ f, ← z) (ap (λ (x : List ℕ). drop_answer answer x) w ∙ ap (drop_answer_of r) o)

-- ---- and of what the controller gives: its number, the class and the record that it leaves

pub command_given : (r h k : List ℕ) (candidate : Candidate) (words : Words) (buf : List ℕ) (given : Result Record Refusal)
    {t : Bool} {z : Record} {v : Words} {n class : ℕ} {w host out : List ℕ} → t ≡ record_intact r → not t ≡ false
    → z ≡ record_at r → v ≡ words
    → outcome (result_number given) (class_in given) (world (record_left z given) host k) out ≡ command_of (world z h k) candidate v buf
    → w ≡ record_after r (result_number given) (record_left z given) → n ≡ result_number given → class ≡ class_in given
    → command_answer n class w host out ≡ command_at r h k candidate words buf
command_given r h k candidate words buf given e f z v o w en ec = rw (en, ec) (command_done r h k candidate words buf e f z v o w)

pub capture_given : (r h k : List ℕ) (candidate : Candidate) (given : Result Record Refusal)
    {t : Bool} {z : Record} {n : ℕ} {w controller : List ℕ} → t ≡ record_intact r → not t ≡ false → z ≡ record_at r
    → outcome (result_number given) (class_in given) (world (record_left z given) h controller) [] ≡ capture_of (world z h k) candidate
    → w ≡ record_after r (result_number given) (record_left z given) → n ≡ result_number given
    → capture_answer n w controller ≡ capture_at r h k candidate
capture_given r h k candidate given e f z o w en = rw en (capture_done r h k candidate e f z o w)

pub drop_given : (r h k : List ℕ) (given : Result Record Refusal) {t : Bool} {z : Record} {n : ℕ} {w : List ℕ} → t ≡ record_intact r → not t ≡ false → z ≡ record_at r
    → outcome (result_number given) (class_in given) (world (record_left z given) h k) [] ≡ drop_of (world z h k)
    → w ≡ record_after r (result_number given) (record_left z given) → n ≡ result_number given
    → drop_answer n w ≡ drop_at r h k
drop_given r h k given e f z o w en = rw en (drop_done r h k e f z o w)
