-- What the structs of include/bumbazeel.h are made of. A yes or no is 1 or 0.
-- Assumes nothing.
use Rattle.std.specs.Prelude.{ℕ, ◌+◌, ◌/◌, ◌%◌, [], ◌∷◌, Bool, ◌&&◌, Option, Some, None, leb, eqb}
use Rattle.choices.specs.Choice.{pick, first_that}
use Rattle.pages.specs.declared.Caps.{Caps}
use Rattle.header.specs.declared.Fault.{Fault}
use Rattle.header.specs.declared.Fault.TheVariants.{Length, Identifier, Area2, Area3, Area4, Scope, Available, Empty}

-- ---- yes or no, and capabilities

-- the greatest byte of five bits
abbrev pub most_caps : ℕ
most_caps = 31

-- capabilities as a byte
abbrev pub caps_byte : Caps → ℕ
caps_byte c = pick c.extended 1 0 + pick c.telemetry 2 0 + pick c.da4s 4 0 + pick c.etdas 8 0 + pick c.mcdas 16 0

-- the capability whose bit is the lowest of d, in a byte b of capabilities; a damaged byte has none
abbrev pub cap_bit : ℕ → ℕ → Bool
cap_bit b d = leb b most_caps && eqb (d % 2) 1

-- the capabilities that a byte says, its lowest bit first
unfoldable pub caps_of : ℕ → Caps
caps_of b = record { extended = cap_bit b b; telemetry = cap_bit b (b / 2); da4s = cap_bit b (b / 4); etdas = cap_bit b (b / 8); mcdas = cap_bit b (b / 16) }

-- ---- what is at fault in a header

-- the number of what is at fault: its place in the order of the check
abbrev pub fault_number : Option Fault → ℕ
fault_number None = 0
fault_number (Some Length) = 1
fault_number (Some Identifier) = 2
fault_number (Some Area2) = 3
fault_number (Some Area3) = 4
fault_number (Some Area4) = 5
fault_number (Some Scope) = 6
fault_number (Some Available) = 7
fault_number (Some Empty) = 8

-- what is at fault, by its number; nothing by 0 and by any number over 8
unfoldable pub fault_by : ℕ → Option Fault
fault_by n =
    first_that
    ((eqb n 1, Some Length)
    ∷ (eqb n 2, Some Identifier)
    ∷ (eqb n 3, Some Area2)
    ∷ (eqb n 4, Some Area3)
    ∷ (eqb n 5, Some Area4)
    ∷ (eqb n 6, Some Scope)
    ∷ (eqb n 7, Some Available)
    ∷ (eqb n 8, Some Empty)
    ∷ [])
    None
