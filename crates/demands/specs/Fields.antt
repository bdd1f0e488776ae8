-- Document 02, Q-2, of the header check: when a field is at fault, said in plain numbers of the bytes from the one that is told of it on; and that the check tells the first
-- field that is, in document 02's order.
-- Assumes nothing.
use Rattle.std.specs.Prelude.{ℕ, ◌≤◌, ◌≡◌, refl, List, [], ◌∷◌, map, Bool, true, false, not, ◌&&◌, ◌||◌, length, get_or, ltb, leb, eqb, Option, Some, None}
use Rattle.std.proofs.Common.{ap, subst, ◌∙◌, arith, ltb-true, ltb-false, leb-true, leb-false, eqb-true, lt-ltb, le-ltb, le-leb, eq-eqb, ne_eqb}
use Rattle.std.proofs.lemmas.Bool.{eqb-false}
use Rattle.choices.specs.Choice.{pick, first_that, First}
use Rattle.choices.specs.Tests.{by_test, clash}
use Rattle.littleendian.specs.Numbers.{value_at}
use Rattle.littleendian.specs.Back.{Bytes, value_small}
use Rattle.pages.specs.Pages.{host_page, telemetry_page, block, most3, most4}
use Rattle.lastblocks.specs.LastBlocks.{area2_ok, area3_ok, area4_ok}
use Rattle.header.specs.declared.Fault.{Fault}
use Rattle.header.specs.declared.Fault.TheVariants.{Length, Identifier, Area2, Area3, Area4, Scope, Available, Empty}
use Rattle.header.specs.Header.{fields_of, byte_of, fault_order, field_fault, header_faults, check_of}
use Rattle.header.specs.Faults.{first_fault, fault_long}

-- the order in which a fault is looked for
abbrev pub order : List Fault
order = Length ∷ Identifier ∷ Area2 ∷ Area3 ∷ Area4 ∷ Scope ∷ Available ∷ Empty ∷ []

module _ (page : ℕ) (da4s : Bool) (h : List ℕ) where
  -- the number of one, two or four bytes where a field starts
  abbrev pub value_there : ℕ → Fault → ℕ
  value_there n x = value_at n (byte_of page (Some x)) h

  -- the field is at fault. Area 1's last block stands at byte 8. Available is any TCDA but 0, since one over 1 is told before available but empty
  abbrev pub at_fault : Fault → Bool
  at_fault Length = not (eqb (length h) block)
  at_fault Identifier = not (telemetry_page page && eqb (value_there 1 Identifier) page)
  at_fault Area2 = ltb (value_there 2 Area2) (value_at 2 8 h)
  at_fault Area3 = ltb (value_there 2 Area3) (value_there 2 Area2)
  at_fault Area4 =
      pick da4s
      (ltb (value_there 4 Area4) (value_there 2 Area3) || (ltb most4 (value_there 4 Area4) || (ltb 0 (value_there 4 Area4) && eqb (value_there 2 Area3) 0)))
      (ltb 0 (value_there 4 Area4))
  at_fault Scope = ltb 2 (value_there 1 Scope)
  at_fault Available = ltb 1 (value_there 1 Available)
  at_fault Empty = not (eqb page host_page) && (ltb 0 (value_there 1 Available) && eqb (value_there 2 Empty) 0)

-- ---- the check's own tests are these

not_leb : (a b : ℕ) → not (leb a b) ≡ ltb b a
not_leb a b = by_test (leb a b) (λ e. rw (e, le-ltb b a (leb-true a b e))) (λ e. rw (e, lt-ltb b a (leb-false a b e)))

not_zero : (n : ℕ) → not (eqb n 0) ≡ ltb 0 n
not_zero n =
    by_test (eqb n 0)
    (λ e. let z = eqb-true n 0 e in rw (e, le-ltb 0 n (omega arith)))
    (λ e. let z = eqb-false n 0 e in rw (e, lt-ltb 0 n (omega arith)))

not_some : (n : ℕ) → not (ltb 0 n) ≡ eqb n 0
not_some n =
    by_test (ltb 0 n)
    (λ e. let z = ltb-true 0 n e in rw (e, ne_eqb n 0 (λ q. omega arith)))
    (λ e. let z = ltb-false 0 n e in rw (e, eq-eqb n 0 (omega arith)))

area3_is : (last : List ℕ) → get_or last 2 0 ≤ most3 → not (area3_ok last) ≡ ltb (get_or last 2 0) (get_or last 1 0)
area3_is last l =
    let both : (t : Bool) → t && true ≡ t = λ t. by_test t (λ e. rw e) (λ e. rw e) in
    ap (λ (t : Bool). not (leb (get_or last 1 0) (get_or last 2 0) && t)) (le-leb (get_or last 2 0) most3 l)
    ∙ ap not (both (leb (get_or last 1 0) (get_or last 2 0)))
    ∙ not_leb (get_or last 1 0) (get_or last 2 0)

area4_is : (da4s : Bool) (a3 a4 : ℕ)
    → not (area4_ok da4s a3 a4) ≡ pick da4s (ltb a4 a3 || (ltb most4 a4 || (ltb 0 a4 && eqb a3 0))) (ltb 0 a4)
area4_is false a3 a4 = not_zero a4
area4_is true a3 a4 =
    turned (leb a3 a4) (leb a4 most4) (eqb a4 0) (ltb 0 a3)
    ∙ rw (not_leb a3 a4, not_leb a4 most4, not_zero a4, not_some a3)
  where
    turned : (x y z w : Bool) → not (x && y && (z || w)) ≡ (not x || (not y || (not z && not w)))
    turned true true true w = refl
    turned true true false true = refl
    turned true true false false = refl
    turned true false z w = refl
    turned false y z w = refl

empty_is : (host : Bool) (tcda a3 : ℕ) → not (host || eqb tcda 0 || ltb 0 a3) ≡ (not host && (ltb 0 tcda && eqb a3 0))
empty_is host tcda a3 = turned host (eqb tcda 0) (ltb 0 a3) ∙ rw (not_zero tcda, not_some a3)
  where
    turned : (x y z : Bool) → not (x || y || z) ≡ (not x && (not y && not z))
    turned true y z = refl
    turned false true z = refl
    turned false false z = refl

scope_is : (page : ℕ) (h : List ℕ) → pick (eqb page host_page) (get_or h 380 0) (get_or h 381 0) ≡ get_or h (byte_of page (Some Scope)) 0
scope_is page h = by_test (eqb page host_page) (λ e. rw e) (λ e. rw e)

-- each test of the check's list, with its field, is that of the field
pub tests_meant : (page : ℕ) (da4s : Bool) (h : List ℕ) → Bytes h → header_faults page da4s h ≡ map (λ (x : Fault). (at_fault page da4s h x, Some x)) order
tests_meant page da4s h b =
    let small = value_small 2 12 h b in
    rw (
      not_leb (value_at 2 8 h) (value_at 2 10 h),
      area3_is (value_at 2 8 h ∷ value_at 2 10 h ∷ value_at 2 12 h ∷ value_at 4 16 h ∷ []) (omega (arith, small)),
      area4_is da4s (value_at 2 12 h) (value_at 4 16 h),
      scope_is page h,
      not_leb (get_or h (byte_of page (Some Scope)) 0) 2,
      not_leb (get_or h 382 0) 1,
      empty_is (eqb page host_page) (get_or h 382 0) (value_at 2 12 h),
    )

-- so what the check tells is the first field that is at fault
pub first_at_fault : (page : ℕ) (da4s : Bool) (h : List ℕ) → Bytes h
    → First (map (λ (x : Fault). (at_fault page da4s h x, Some x)) order) None (check_of page da4s h).fault
first_at_fault page da4s h b =
    subst (λ (rows : List (Bool × Option Fault)). First rows None (check_of page da4s h).fault) (tests_meant page da4s h b) (first_fault page da4s h)

-- of 512 bytes it is never the length
pub not_length : (page : ℕ) (da4s : Bool) (h : List ℕ) → length h ≡ block → (check_of page da4s h).fault ≡ Some Length → ⊥
unfolding check_of field_fault
not_length page da4s h l e =
    let f = fields_of page h in
    other (telemetry_page page && eqb f.page page) (area2_ok f.last) (area3_ok f.last)
    (area4_ok da4s (get_or f.last 2 0) (get_or f.last 3 0)) (leb f.scope 2) (leb f.tcda 1)
    (eqb page host_page || eqb f.tcda 0 || ltb 0 (get_or f.last 2 0)) (fault_long page da4s h l ∙ e)
  where
    other : (i a b c s t e : Bool) → first_that (fault_order i a b c s t e) None ≡ Some Length → ⊥
    other false a b c s t e q = clash {t = true} refl cc
    other true false b c s t e q = clash {t = true} refl cc
    other true true false c s t e q = clash {t = true} refl cc
    other true true true false s t e q = clash {t = true} refl cc
    other true true true true false t e q = clash {t = true} refl cc
    other true true true true true false e q = clash {t = true} refl cc
    other true true true true true true false q = clash {t = true} refl cc
    other true true true true true true true q = clash {t = true} refl cc
