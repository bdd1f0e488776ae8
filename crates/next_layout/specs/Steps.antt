-- What the code's calls come to, one after another.
-- Assumes nothing.
use Rattle.std.specs.Prelude.{ℕ, ◌≡◌, List, [], ◌∷◌}
use Rattle.copies.specs.Parts.{zeros, put_at}
use Rattle.littleendian.specs.Numbers.{bytes_of}
use Rattle.arrays.specs.Arrays.{fours_of}
use Rattle.littleendian.specs.Puts.{then}
use Rattle.words.specs.declared.Words.{Words}
use Rattle.next_layout.specs.Layout.{next_parts}

pub next_is : (kind answer newer field : ℕ) (w : Words) (count : ℕ) {p q r : List ℕ}
    → p ≡ put_at (kind ∷ answer ∷ newer ∷ field ∷ zeros 28) 4 (fours_of (w.cdw10 ∷ w.cdw11 ∷ w.cdw12 ∷ w.cdw13 ∷ [])) → q ≡ put_at p 20 (bytes_of 4 w.cdw14)
    → r ≡ put_at q 24 (bytes_of 8 count)
    → r ≡ next_parts kind answer newer field w count
unfolding put_at next_parts
next_is kind answer newer field w count e1 e2 e3 = then 24 (bytes_of 8 count) (then 20 (bytes_of 4 w.cdw14) e1 e2) e3
