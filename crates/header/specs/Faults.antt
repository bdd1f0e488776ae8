-- What a header's fault tells: it is the first of the order, and there is none just where the header is good.
-- Assumes nothing.
use Rattle.std.specs.Prelude.{ℕ, ◌≡◌, refl, List, [], ◌∷◌, Bool, true, false, Option, Some, None, not, ◌&&◌, ◌||◌, length, get_or, ltb, leb, eqb}
use Rattle.std.proofs.Common.{◌∙◌, eq-eqb, ne_eqb}
use Rattle.choices.specs.Choice.{first_that, First, first_that_lem}
use Rattle.choices.specs.Tests.{holds}
use Rattle.pages.specs.Pages.{host_page, telemetry_page, block}
use Rattle.lastblocks.specs.LastBlocks.{area2_ok, area3_ok, area4_ok, last_ok}
use Rattle.header.specs.declared.Fields.{Fields}
use Rattle.header.specs.declared.Fault.{Fault}
use Rattle.header.specs.declared.Fault.TheVariants.{Length}
use Rattle.header.specs.Header.{fields_of, fields_ok, faultless, fault_order, field_fault, header_faults, fault_of, check_of}

-- the fault of a check is the first of the order: its own test fails and none before it does
pub first_fault : (page : ℕ) (da4s : Bool) (h : List ℕ) → First (header_faults page da4s h) None (check_of page da4s h).fault
unfolding check_of fault_of
first_fault page da4s h = first_that_lem (header_faults page da4s h) None

no_fault : (i a b c s t e : Bool) → faultless (first_that (fault_order i a b c s t e) None) ≡ ((((i && ((a && b) && c)) && s) && t) && e)
no_fault false a b c s t e = refl
no_fault true false b c s t e = refl
no_fault true true false c s t e = refl
no_fault true true true false s t e = refl
no_fault true true true true false t e = refl
no_fault true true true true true false e = refl
no_fault true true true true true true false = refl
no_fault true true true true true true true = refl

-- the fields have no fault just where they are no bad header's
pub faultless_fields : (page : ℕ) (da4s : Bool) (f : Fields) → faultless (field_fault page da4s f) ≡ fields_ok page da4s f
unfolding field_fault fields_ok last_ok holds
faultless_fields page da4s f =
    no_fault (telemetry_page page && eqb f.page page) (area2_ok f.last) (area3_ok f.last)
    (area4_ok da4s (get_or f.last 2 0) (get_or f.last 3 0)) (leb f.scope 2) (leb f.tcda 1)
    (eqb page host_page || eqb f.tcda 0 || ltb 0 (get_or f.last 2 0))

-- a header has no fault just where it has 512 bytes and its fields are no bad header's
pub faultless_header : (page : ℕ) (da4s : Bool) (h : List ℕ)
    → faultless (check_of page da4s h).fault ≡ (eqb (length h) block && fields_ok page da4s (fields_of page h))
unfolding check_of fault_of field_fault
faultless_header page da4s h =
    by (eqb (length h) block) (field_fault page da4s (fields_of page h)) (fields_ok page da4s (fields_of page h)) (faultless_fields page da4s (fields_of page h))
  where
    by : (t : Bool) (x : Option Fault) (b : Bool) → faultless x ≡ b → faultless (first_that ((not t, Some Length) ∷ []) x) ≡ (t && b)
    by true x b e = e
    by false x b e = refl

-- None is the one fault that is none
pub faultless_none : (x : Option Fault) → faultless x ≡ true → x ≡ None
faultless_none None e = refl
faultless_none (Some x) e = cc

-- the fault where the areas' tests are computed apart
pub fault_is : (page : ℕ) (da4s : Bool) (f : Fields) {x : Option Fault} {two three four : Bool}
    → two ≡ area2_ok f.last → three ≡ area3_ok f.last → four ≡ area4_ok da4s (get_or f.last 2 0) (get_or f.last 3 0)
    → x ≡ first_that (fault_order (telemetry_page page && eqb f.page page) two three four (leb f.scope 2) (leb f.tcda 1) (eqb page host_page || eqb f.tcda 0 || ltb 0 (get_or f.last 2 0))) None
    → x ≡ field_fault page da4s f
unfolding field_fault
fault_is page da4s f p q r e = e ∙ rw (p, q, r)

-- what the fault is where the length is known
pub fault_short : (page : ℕ) (da4s : Bool) (h : List ℕ) → (length h ≡ block → ⊥) → Some Length ≡ fault_of page da4s h
unfolding fault_of
fault_short page da4s h n = rw (ne_eqb (length h) block n)

pub fault_long : (page : ℕ) (da4s : Bool) (h : List ℕ) → length h ≡ block → field_fault page da4s (fields_of page h) ≡ fault_of page da4s h
unfolding fault_of field_fault
fault_long page da4s h l = rw (eq-eqb (length h) block l)
