-- Struct bumbazeel_planned (160 bytes): what a plan gives. Numbers are little-endian.
-- Assumes nothing.
use Rattle.std.specs.Prelude.{ℕ, List, ◌∷◌, ◌++◌}
use Rattle.littleendian.specs.Numbers.{bytes_of}
use Rattle.arrays.specs.Arrays.{fours_of}
use Rattle.header.specs.Header.{byte_of}
use Rattle.completions.specs.Plan.{Planned}
use Rattle.shared_layouts.specs.Layouts.{fault_number}

-- of a plan for this page, the first eight bytes
abbrev pub planned_marks : ℕ → Planned → List ℕ
planned_marks page x =
    x.fields.page
    ∷ x.fields.scope
    ∷ x.fields.hostgeneration
    ∷ x.fields.tcda
    ∷ x.fields.controllergeneration
    ∷ fault_number x.fault
    ∷ bytes_of 2 (byte_of page x.fault)  -- 6

-- what stands before the reason
abbrev pub planned_front : ℕ → Planned → List ℕ
planned_front page x =
    planned_marks page x
    ++ bytes_of 4 x.fields.oui  -- 8
    ++ fours_of x.fields.last  -- 12

-- what a plan for this page gives: the fields, what is at fault with the byte where it starts, and the number of chunks
unfoldable pub planned_bytes : ℕ → Planned → List ℕ
planned_bytes page x =
    planned_front page x
    ++ x.fields.reason  -- 28
    ++ bytes_of 4 x.chunks  -- 156
