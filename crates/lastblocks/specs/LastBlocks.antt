-- Document 01, "Header bytes", on last blocks. A group a of four is a1 to a4 in this order. All areas start at block 1.
-- Assumes nothing.
use Rattle.std.specs.Prelude.{ℕ, List, [], ◌∷◌, Bool, ◌&&◌, ◌||◌, get_or, ltb, leb, eqb}
use Rattle.choices.specs.Choice.{pick, larger}
use Rattle.choices.specs.Tests.{holds}
use Rattle.pages.specs.Pages.{most3, most4}

-- area 2 ends no earlier than area 1
abbrev pub area2_ok : List ℕ → Bool
area2_ok a = leb (get_or a 0 0) (get_or a 1 0)

-- area 3 ends no earlier than area 2, and within its limit
abbrev pub area3_ok : List ℕ → Bool
area3_ok a = leb (get_or a 1 0) (get_or a 2 0) && leb (get_or a 2 0) most3

-- with DA4S a4 is at least a3 and within the limit, and a4 > 0 asks for a3 > 0; without it a4 is 0
abbrev pub area4_ok : Bool → ℕ → ℕ → Bool
area4_ok da4s a3 a4 = pick da4s (leb a3 a4 && leb a4 most4 && (eqb a4 0 || ltb 0 a3)) (eqb a4 0)

-- the rule's tests, one for each of areas 2, 3 and 4: a1 ≤ a2 ≤ a3 ≤ 65,535, and area 4's
abbrev pub last_tests : Bool → List ℕ → List Bool
last_tests da4s a = area2_ok a ∷ area3_ok a ∷ area4_ok da4s (get_or a 2 0) (get_or a 3 0) ∷ []

-- last blocks that keep the rule for a DA4S
unfoldable pub last_ok : Bool → List ℕ → Bool
last_ok da4s a = holds (last_tests da4s a)

-- all four are the same
unfoldable pub same_last : List ℕ → List ℕ → Bool
same_last a b =
    holds
    (eqb (get_or a 0 0) (get_or b 0 0)
    ∷ eqb (get_or a 1 0) (get_or b 1 0)
    ∷ eqb (get_or a 2 0) (get_or b 2 0)
    ∷ eqb (get_or a 3 0) (get_or b 3 0)
    ∷ [])

-- the greatest of the four
unfoldable pub greatest_of : List ℕ → ℕ
greatest_of a = larger (get_or a 0 0) (larger (get_or a 1 0) (larger (get_or a 2 0) (get_or a 3 0)))
