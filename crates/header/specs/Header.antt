-- Document 01, "Header bytes, both pages" and, under "Host", when a header is bad; and document 02, Q-2, what is at fault in it and where. One definition serves both
-- pages: the page's number is a field.
-- Assumes nothing.
use Rattle.std.specs.Prelude.{ℕ, List, [], ◌∷◌, ◌++◌, Bool, true, false, not, ◌&&◌, ◌||◌, Option, Some, None, Result, Ok, Err, length, get_or, ltb, leb, eqb}
use Rattle.choices.specs.Choice.{pick, first_that}
use Rattle.choices.specs.Tests.{holds}
use Rattle.copies.specs.Parts.{zeros}
use Rattle.littleendian.specs.Numbers.{bytes_of, value_at}
use Rattle.arrays.specs.Arrays.{reason_at}
use Rattle.pages.specs.Pages.{host_page, telemetry_page, block, per_page}
use Rattle.lastblocks.specs.LastBlocks.{area2_ok, area3_ok, area4_ok, last_ok}
use Rattle.header.specs.declared.Fields.{Fields}
use Rattle.header.specs.declared.Fault.{Fault}
use Rattle.header.specs.declared.Fault.TheVariants.{Length, Identifier, Area2, Area3, Area4, Scope, Available, Empty}

-- bytes 0 to 19, by ranges as the paper gives them
abbrev pub numbers : ℕ → ℕ → List ℕ → List ℕ
numbers page oui last =
    (page ∷ zeros 4)  -- 0: identifier
    ++ bytes_of 3 oui  -- 7:5
    ++ bytes_of 2 (get_or last 0 0)  -- 9:8
    ++ bytes_of 2 (get_or last 1 0)  -- 11:10
    ++ bytes_of 2 (get_or last 2 0)  -- 13:12
    ++ zeros 2
    ++ bytes_of 4 (get_or last 3 0)  -- 19:16

-- bytes 380 to 383: on 07h scope and host generation, on 08h zero and scope; then TCDA and the controller generation
abbrev pub marks : Fields → List ℕ
marks f =
    per_page f.page f.scope 0
    ∷ per_page f.page f.hostgeneration f.scope
    ∷ f.tcda
    ∷ f.controllergeneration
    ∷ []

-- the header's 512 bytes; the reason is 511:384
unfoldable pub header_of : Fields → List ℕ
header_of f = numbers f.page f.oui f.last ++ zeros 360 ++ marks f ++ f.reason

-- ---- the way back

-- the four last blocks of a header's bytes
abbrev pub last_at : List ℕ → List ℕ
last_at h = value_at 2 8 h ∷ value_at 2 10 h ∷ value_at 2 12 h ∷ value_at 4 16 h ∷ []

-- what a header's bytes say, asked for as this page
abbrev pub fields_of : ℕ → List ℕ → Fields
fields_of page h = record {
  page = get_or h 0 0;
  oui = value_at 3 5 h;
  last = last_at h;
  scope = per_page page (get_or h 380 0) (get_or h 381 0);
  hostgeneration = per_page page (get_or h 381 0) 0;
  tcda = get_or h 382 0;
  controllergeneration = get_or h 383 0;
  reason = reason_at 384 h;
}

-- ---- what is at fault

-- fields that no bad header has: the identifier of the page asked for, which is 07h or 08h; last blocks that keep the rule;
-- a scope of at most 2; a TCDA of at most 1; and not available but empty, on 08h
unfoldable pub fields_ok : ℕ → Bool → Fields → Bool
fields_ok page da4s f =
    holds
    ((telemetry_page page && eqb f.page page)
    ∷ last_ok da4s f.last
    ∷ leb f.scope 2
    ∷ leb f.tcda 1
    ∷ (eqb page host_page || eqb f.tcda 0 || ltb 0 (get_or f.last 2 0))
    ∷ [])

-- nothing is at fault
abbrev pub faultless : Option Fault → Bool
faultless None = true
faultless (Some x) = false

-- the byte at which the field at fault starts: a length is told at byte 0, and available but empty at area 3's last block
abbrev pub byte_of : ℕ → Option Fault → ℕ
byte_of page None = 0
byte_of page (Some Length) = 0
byte_of page (Some Identifier) = 0
byte_of page (Some Area2) = 10
byte_of page (Some Area3) = 12
byte_of page (Some Area4) = 16
byte_of page (Some Scope) = per_page page 380 381
byte_of page (Some Available) = 382
byte_of page (Some Empty) = 12

-- the faults of a header's fields in their order, from what is as it should be
abbrev pub fault_order : Bool → Bool → Bool → Bool → Bool → Bool → Bool → List (Bool × Option Fault)
fault_order identifier area2 area3 area4 scope available some =
    (not identifier, Some Identifier)
    ∷ (not area2, Some Area2)
    ∷ (not area3, Some Area3)
    ∷ (not area4, Some Area4)
    ∷ (not scope, Some Scope)
    ∷ (not available, Some Available)
    ∷ (not some, Some Empty)
    ∷ []

-- the tests of a header's fields, asked for as this page, each with its fault
abbrev pub field_faults : ℕ → Bool → Fields → List (Bool × Option Fault)
field_faults page da4s f =
    fault_order
    (telemetry_page page && eqb f.page page)
    (area2_ok f.last)
    (area3_ok f.last)
    (area4_ok da4s (get_or f.last 2 0) (get_or f.last 3 0))
    (leb f.scope 2)
    (leb f.tcda 1)
    (eqb page host_page || eqb f.tcda 0 || ltb 0 (get_or f.last 2 0))

-- the first of them, or none
unfoldable pub field_fault : ℕ → Bool → Fields → Option Fault
field_fault page da4s f = first_that (field_faults page da4s f) None

-- all of a header's tests: its length comes first
abbrev pub header_faults : ℕ → Bool → List ℕ → List (Bool × Option Fault)
header_faults page da4s h = (not (eqb (length h) block), Some Length) ∷ field_faults page da4s (fields_of page h)

-- the first of them, or none
unfoldable pub fault_of : ℕ → Bool → List ℕ → Option Fault
fault_of page da4s h = first_that (header_faults page da4s h) None

-- the fields of a header with a fault: it yields none
unfoldable pub no_fields : Fields
no_fields = record { page = 0; oui = 0; last = zeros 4; scope = 0; hostgeneration = 0; tcda = 0; controllergeneration = 0; reason = zeros 128 }

-- what a check answers: the fields where nothing is at fault, or the fault with zeros in their place
pub record Checked : Type 0 where
  pub fault : Option Fault
  pub fields : Fields

-- what a check answers of a fault and the fields read
abbrev pub checked_by : Option Fault → Fields → Checked
checked_by x f = record { fault = x; fields = pick (faultless x) f no_fields }

-- the check: the first fault, and the fields where there is none
unfoldable pub check_of : ℕ → Bool → List ℕ → Checked
check_of page da4s h = checked_by (fault_of page da4s h) (fields_of page h)

-- what a check that gives the fields or the fault answers
abbrev pub checked : Result Fields Fault → Checked
checked (Ok f) = record { fault = None; fields = f }
checked (Err x) = record { fault = Some x; fields = no_fields }
