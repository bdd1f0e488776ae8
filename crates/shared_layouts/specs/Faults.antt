-- A header's fault across the boundary: its number is its place in the order of the check, and either reads back to the other.
-- Assumes nothing.
use Rattle.std.specs.Prelude.{ℕ, ◌≡◌, refl, List, [], ◌∷◌, map, Bool, Option, Some, None, eqb}
use Rattle.header.specs.declared.Fault.{Fault}
use Rattle.header.specs.declared.Fault.TheVariants.{Length, Identifier, Area2, Area3, Area4, Scope, Available, Empty}
use Rattle.header.specs.Header.{faultless, header_faults}
use Rattle.shared_layouts.specs.Layouts.{fault_number, fault_by}

-- the numbers follow the order of the check
pub numbered : (page : ℕ) (da4s : Bool) (h : List ℕ)
    → map (λ (row : Bool × Option Fault). fault_number row.1) (header_faults page da4s h) ≡ 1 ∷ 2 ∷ 3 ∷ 4 ∷ 5 ∷ 6 ∷ 7 ∷ 8 ∷ []
numbered page da4s h = refl

-- 0 is the number of nothing alone
pub no_field : (x : Option Fault) → eqb (fault_number x) 0 ≡ faultless x
no_field None = refl
no_field (Some Length) = refl
no_field (Some Identifier) = refl
no_field (Some Area2) = refl
no_field (Some Area3) = refl
no_field (Some Area4) = refl
no_field (Some Scope) = refl
no_field (Some Available) = refl
no_field (Some Empty) = refl

-- a number reads back to its fault
pub fault_back : (x : Option Fault) → fault_by (fault_number x) ≡ x
unfolding fault_by
fault_back None = refl
fault_back (Some Length) = refl
fault_back (Some Identifier) = refl
fault_back (Some Area2) = refl
fault_back (Some Area3) = refl
fault_back (Some Area4) = refl
fault_back (Some Scope) = refl
fault_back (Some Available) = refl
fault_back (Some Empty) = refl

-- and each number is that of its fault
pub numbers_back : map (λ (n : ℕ). fault_number (fault_by n)) (0 ∷ 1 ∷ 2 ∷ 3 ∷ 4 ∷ 5 ∷ 6 ∷ 7 ∷ 8 ∷ []) ≡ 0 ∷ 1 ∷ 2 ∷ 3 ∷ 4 ∷ 5 ∷ 6 ∷ 7 ∷ 8 ∷ []
unfolding fault_by
numbers_back = refl
