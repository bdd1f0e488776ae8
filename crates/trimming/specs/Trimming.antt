-- Document 01, "Captures", on last blocks: what a capture keeps of a candidate's.
-- Assumes nothing.
use Rattle.std.specs.Prelude.{ℕ, List, [], ◌∷◌, Bool, ◌&&◌, leb}
use Rattle.choices.specs.Choice.{pick, smaller}
use Rattle.pages.specs.declared.Caps.{Caps}
use Rattle.pages.specs.Pages.{last_of, area4}

-- the greatest area that a capture keeps: 4 or 3, and with MCDAS and MCDA 1 to 4 the smaller of that and MCDA
unfoldable pub top_of : Caps → ℕ → ℕ
top_of caps mcda = pick (caps.mcdas && leb 1 mcda && leb mcda 4) (smaller (pick (area4 caps) 4 3) mcda) (pick (area4 caps) 4 3)

-- ai up to area m and am for each area above it, but 0 for area 4 without DA4S
unfoldable pub trimmed_to : Bool → ℕ → List ℕ → List ℕ
trimmed_to da4s m a =
    last_of (smaller 1 m) a
    ∷ last_of (smaller 2 m) a
    ∷ last_of (smaller 3 m) a
    ∷ pick da4s (last_of (smaller 4 m) a) 0
    ∷ []

-- what a capture stores of a candidate's last blocks
unfoldable pub trim_of : Caps → ℕ → List ℕ → List ℕ
trim_of caps mcda a = trimmed_to caps.da4s (top_of caps mcda) a
