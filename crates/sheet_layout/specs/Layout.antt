-- struct bumbazeel_sheet and struct bumbazeel_mean of include/bumbazeel.h, 104 and 24 bytes, field by field in the file's order.
-- Assumes nothing.
use Rattle.std.specs.Prelude.{ℕ, ◌+◌, ◌*◌, ◌%◌, ◌^◌, Bool, List, [], ◌∷◌, ◌++◌, ◌==◌, slice_index}
use Rattle.choices.specs.Choice.{one}
use Rattle.choices.specs.Tests.{holds}
use Rattle.littleendian.specs.Numbers.{bytes_of, value_at}
use Rattle.sheets.specs.declared.Sheet.{Sheet}
use Rattle.sheets.specs.Sheets.{Mean, each_of, possible}

-- the bytes "BZSHEET1", as a number
abbrev pub mark : ℕ
mark = 0x3154454548535A42

-- eight numbers as 64 bytes
abbrev pub eights_of : List ℕ → List ℕ
eights_of a =
    bytes_of 8 (slice_index a 0)
    ++ bytes_of 8 (slice_index a 1)
    ++ bytes_of 8 (slice_index a 2)
    ++ bytes_of 8 (slice_index a 3)
    ++ bytes_of 8 (slice_index a 4)
    ++ bytes_of 8 (slice_index a 5)
    ++ bytes_of 8 (slice_index a 6)
    ++ bytes_of 8 (slice_index a 7)

-- the eight numbers in the 64 bytes of b from i on
abbrev pub eights_at : ℕ → List ℕ → List ℕ
eights_at i b = each_of (λ (k : ℕ). value_at 8 (i + 8 * k) b)

-- the sum of a list
abbrev pub total : List ℕ → ℕ
total [] = 0
total (x ∷ xs) = x + total xs

-- the totals of a sheet, in its order
abbrev pub totals : Sheet → List ℕ
totals s = each_of (λ (i : ℕ). slice_index s.runs i) ++ (s.blocks ∷ s.commands ∷ s.failed ∷ [])

-- the mark and the totals added, modulo 2^64
unfoldable pub check_of : Sheet → ℕ
check_of s = (mark + total (totals s)) % 2 ^ 64

-- a sheet's 104 bytes
unfoldable pub sheet_bytes : Sheet → List ℕ
sheet_bytes s =
    bytes_of 8 mark
    ++ eights_of s.runs  -- 8
    ++ bytes_of 8 s.blocks  -- 72
    ++ bytes_of 8 s.commands  -- 80
    ++ bytes_of 8 s.failed  -- 88
    ++ bytes_of 8 (check_of s)  -- 96

-- the sheet that the bytes say
unfoldable pub sheet_at : List ℕ → Sheet
sheet_at b = record { runs = eights_at 8 b; blocks = value_at 8 72 b; commands = value_at 8 80 b; failed = value_at 8 88 b }

-- bytes of a sheet that some runs have: the mark, the check, and totals that can be
unfoldable pub sheet_intact : List ℕ → Bool
sheet_intact b = holds ((value_at 8 0 b == mark) ∷ (value_at 8 96 b == check_of (sheet_at b)) ∷ possible (sheet_at b) ∷ [])

-- a mean's 24 bytes
unfoldable pub mean_bytes : Mean → List ℕ
mean_bytes m = bytes_of 8 (one m.given) ++ bytes_of 8 m.whole ++ bytes_of 8 m.rest
