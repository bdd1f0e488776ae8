-- The puts that write what a plan gives come to its bytes, and what C reads of them is what was given.
-- Assumes nothing.
use Rattle.std.specs.Prelude.{ℕ, ◌+◌, ◌≤◌, ◌<◌, ◌≡◌, refl, List, ◌++◌, length, get_or, drop, eqb, Option, Some, None}
use Rattle.std.proofs.Common.{ap, ◌∙◌, arith, length-append, length-drop, take_at, get_or-append-add}
use Rattle.choices.specs.Choice.{pick_cases}
use Rattle.copies.specs.Parts.{zeros, put_at, put_end, put_next}
use Rattle.littleendian.specs.Numbers.{bytes_of, value_at}
use Rattle.arrays.specs.Arrays.{fours_of}
use Rattle.littleendian.specs.Back.{value_back}
use Rattle.littleendian.specs.Puts.{then}
use Rattle.pages.specs.Pages.{host_page}
use Rattle.header.specs.declared.Fault.{Fault}
use Rattle.header.specs.declared.Fault.TheVariants.{Length, Identifier, Area2, Area3, Area4, Scope, Available, Empty}
use Rattle.header.specs.Header.{byte_of}
use Rattle.completions.specs.Plan.{Planned}
use Rattle.shared_layouts.specs.Layouts.{fault_number}
use Rattle.planned_layout.specs.Layout.{planned_marks, planned_front, planned_bytes}

front_is : (page : ℕ) (x : Planned) {m p q : List ℕ} → m ≡ put_at (zeros 160) 0 (planned_marks page x)
    → p ≡ put_at m 8 (bytes_of 4 x.fields.oui) → q ≡ put_at p 12 (fours_of x.fields.last)
    → q ≡ planned_front page x ++ zeros 132
unfolding put_at
front_is page x e0 e1 e2 = then 12 (fours_of x.fields.last) (then 8 (bytes_of 4 x.fields.oui) e0 e1) e2

-- a reason and four bytes behind a front of 28
rest_is : (f h k : List ℕ) {t u : List ℕ} → length f ≡ 28 → length h ≡ 128 → length k ≡ 4
    → t ≡ put_at (f ++ zeros 132) 28 h → u ≡ put_at t 156 k → u ≡ f ++ h ++ k
rest_is f h k lf lh lk e1 e2 =
    let rest : List ℕ = drop (28 + length h) (zeros 160) in
    e2
    ∙ ap (λ (x : List ℕ). put_at x 156 k) (e1 ∙ put_next f (zeros 160) h 28 lf (omega arith))
    ∙ put_end ((f ++ h) ++ rest) k 156 (simp (length-append, length-drop) (omega arith))
    ∙ ap (λ (x : List ℕ). x ++ k) (take_at (f ++ h) rest 156 (simp length-append (omega arith)))

-- what a plan gives
pub planned_is : (page : ℕ) (x : Planned) {k m p q r s : List ℕ} → length x.fields.reason ≡ 128 → k ≡ planned_marks page x → m ≡ put_at (zeros 160) 0 k
    → p ≡ put_at m 8 (bytes_of 4 x.fields.oui) → q ≡ put_at p 12 (fours_of x.fields.last) → r ≡ put_at q 28 x.fields.reason
    → s ≡ put_at r 156 (bytes_of 4 x.chunks) → s ≡ planned_bytes page x
unfolding planned_bytes
planned_is page x l k e0 e1 e2 e3 e4 =
    rest_is (planned_front page x) x.fields.reason (bytes_of 4 x.chunks) refl l refl
    (e3 ∙ ap (λ (y : List ℕ). put_at y 28 x.fields.reason) (front_is page x (e0 ∙ ap (put_at (zeros 160) 0) k) e1 e2)) e4

-- every byte fits two bytes
byte_small : (page : ℕ) (x : Option Fault) → byte_of page x ≤ 382
byte_small page None = omega arith
byte_small page (Some Length) = omega arith
byte_small page (Some Identifier) = omega arith
byte_small page (Some Area2) = omega arith
byte_small page (Some Area3) = omega arith
byte_small page (Some Area4) = omega arith
byte_small page (Some Scope) = pick_cases (λ (n : ℕ). n ≤ 382) (eqb page host_page) (λ e. omega arith) (λ e. omega arith)
byte_small page (Some Available) = omega arith
byte_small page (Some Empty) = omega arith

-- `bad_field` and `bad_byte` of what a plan gives
pub told_field : (page : ℕ) (x : Planned) → get_or (planned_bytes page x) 5 0 ≡ fault_number x.fault
unfolding planned_bytes
told_field page x = refl

pub told_byte : (page : ℕ) (x : Planned) → value_at 2 6 (planned_bytes page x) ≡ byte_of page x.fault
unfolding planned_bytes
told_byte page x = value_back 2 (byte_of page x.fault) (omega (arith, byte_small page x.fault))

-- and the number of chunks
pub told_chunks : (page : ℕ) (x : Planned) → length x.fields.reason ≡ 128 → x.chunks < 4294967296 → value_at 4 156 (planned_bytes page x) ≡ x.chunks
unfolding planned_bytes
told_chunks page x l small =
    rw (behind 0, behind 1, behind 2, behind 3) (value_back 4 x.chunks small)
  where
    behind : (i : ℕ) → get_or (planned_front page x ++ x.fields.reason ++ bytes_of 4 x.chunks) (156 + i) 0 ≡ get_or (bytes_of 4 x.chunks) i 0
    behind i =
        let e : 156 ≡ length (planned_front page x ++ x.fields.reason) = simp length-append (omega arith) in
        ap (λ (n : ℕ). get_or (planned_front page x ++ x.fields.reason ++ bytes_of 4 x.chunks) (n + i) 0) e
        ∙ get_or-append-add (planned_front page x ++ x.fields.reason) (bytes_of 4 x.chunks) i 0
