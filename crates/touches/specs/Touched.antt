-- What each touch leaves of the copy: document 01, "Host: header check and collection", on what data does to the copy.
-- Assumes nothing.
use Rattle.std.specs.Prelude.{ℕ, ◌+◌, ◌-◌, ◌≤◌, ◌<◌, ◌≡◌, refl, List, [], ◌++◌, length, take, drop, leb}
use Rattle.std.proofs.Common.{ap, ◌∙◌, arith, add-zero, take-append-drop, drop_of_length-le}
use Rattle.std.proofs.Math.Nat.{sub-zero}
use Rattle.choices.specs.Choice.{pick_cases}
use Rattle.copies.specs.Parts.{zeros, put_at, length-zeros, put_not, put_length, put_end, put_whole}
use Rattle.touches.specs.declared.Touch.{Touch}
use Rattle.touches.specs.declared.Touch.TheVariants.{Keep, Place, Tail, All}

-- zeros from a place on; a copy that ends before it stays as it is
abbrev pub zeros_from : List ℕ → ℕ → List ℕ
zeros_from copy place = put_at copy place (zeros (length copy - place))

-- what a touch leaves of the copy, the completion's data being d
unfoldable pub touched : Touch → List ℕ → List ℕ → List ℕ
touched Keep d copy = copy
touched (Place from place) d copy = put_at copy place (drop from d)
touched (Tail place) d copy = zeros_from copy place
touched All d copy = zeros_from copy 0

-- no touch changes the copy's length
pub touched_length : (t : Touch) (d copy : List ℕ) → length (touched t d copy) ≡ length copy
unfolding touched
touched_length Keep d copy = refl
touched_length (Place from place) d copy = put_length copy place (drop from d)
touched_length (Tail place) d copy = put_length copy place (zeros (length copy - place))
touched_length All d copy = put_length copy 0 (zeros (length copy - 0))

-- no bytes put change nothing
put_none : (copy : List ℕ) (place : ℕ) → put_at copy place [] ≡ copy
unfolding put_at
put_none copy place =
    pick_cases (λ (l : List ℕ). l ≡ copy) (leb (place + 0) (length copy)) (λ e. rw add-zero (take-append-drop place copy)) (λ e. refl)

-- and none are put where the data ends before the byte that they are put from
pub put_past : (d copy : List ℕ) (from place : ℕ) → length d < from → put_at copy place (drop from d) ≡ copy
put_past d copy from place h = ap (put_at copy place) (drop_of_length-le d {i = from} (omega arith)) ∙ put_none copy place

-- zeros from a place on
pub zeros_none : (copy : List ℕ) (place : ℕ) → length copy < place → zeros_from copy place ≡ copy
zeros_none copy place h = put_not copy place (zeros (length copy - place)) (omega arith)

pub zeros_after : (copy : List ℕ) (place : ℕ) → place ≤ length copy → zeros_from copy place ≡ take place copy ++ zeros (length copy - place)
zeros_after copy place h = put_end copy (zeros (length copy - place)) place (omega (arith, length-zeros (length copy - place)))

pub zeros_all : (copy : List ℕ) → zeros_from copy 0 ≡ zeros (length copy)
zeros_all copy = rw sub-zero (put_whole copy (zeros (length copy)) (omega (arith, length-zeros (length copy))))
