-- Reading on: from the copy's start a reader hands out the copy's whole blocks in order, says then that it is at the end, and stays there.
-- Assumes nothing.
use Prim.Native.Nat.{ℕ, zero, suc, ◌+◌, ◌*◌, ◌/◌, ◌≤◌, ◌<◌}
use Rattle.std.specs.Prelude.{◌≡◌, false, drop}
use Rattle.std.proofs.Math.Path.{refl, sym, ap}
use Rattle.std.proofs.Common.{◌∙◌, zero-add, length-take, length-drop, take-append-drop, drop-drop}
use mathlib.Core.List.{List, [], ◌∷◌, ◌++◌}
use native.Mathlib.Omega.{arith}
use Rattle.std.proofs.Math.ListN.{length, take}
use Rattle.std.proofs.Math.Seq.{take-append-add}
use Rattle.choices.specs.Choice.{pick}
use Rattle.pages.specs.Pages.{block}
use Rattle.reader.specs.Reader.{more_at, block_at, place_at}
use Rattle.reader.specs.Laws.{more_yes, more_no, block_yes, place_yes, place_no}

-- the blocks that n steps hand out from a place on: none at the end
unfoldable pub blocks_from : List ℕ → ℕ → ℕ → List (List ℕ)
blocks_from copy at zero = []
blocks_from copy at (suc n) = pick (more_at (length copy) at) (block_at copy at ∷ blocks_from copy (place_at (length copy) at).at n) []

-- the place after n steps
unfoldable pub place_after : ℕ → ℕ → ℕ → ℕ
place_after len at zero = at
place_after len at (suc n) = place_after len (place_at len at).at n

-- n blocks of a copy from the i-th on, the first being the 0th
unfoldable pub blocks_of : List ℕ → ℕ → ℕ → List (List ℕ)
blocks_of copy i zero = []
blocks_of copy i (suc n) = take block (drop (block * i) copy) ∷ blocks_of copy (i + 1) n

-- blocks one after another
abbrev pub joined : List (List ℕ) → List ℕ
joined [] = []
joined (b ∷ bs) = b ++ joined bs

-- ---- at the end

from_end : (copy : List ℕ) (at n : ℕ) → more_at (length copy) at ≡ false → blocks_from copy at n ≡ []
unfolding blocks_from
from_end copy at zero e = refl
from_end copy at (suc n) e = rw e

after_end : (len at n : ℕ) → more_at len at ≡ false → place_after len at n ≡ at
unfolding place_after
after_end len at zero e = refl
after_end len at (suc n) e = rw (place_no len at e) (after_end len at n e)

-- ---- on to the end, with k blocks left

module _ (copy : List ℕ) where
  from_on : (i k n : ℕ) → block * (i + k) ≤ length copy → length copy < block * (i + k) + block → k ≤ n → blocks_from copy (block * i) n ≡ blocks_of copy i k
  unfolding blocks_from blocks_of
  from_on i zero n l m h = from_end copy (block * i) n (more_no (length copy) (block * i) (omega arith))
  from_on i (suc k) zero l m h = absurd (omega arith)
  from_on i (suc k) (suc n) l m h =
      let y = more_yes (length copy) (block * i) (omega arith) in
      let p : block * i + block ≡ block * (i + 1) = omega arith in
      let r = from_on (i + 1) k n (omega arith) (omega arith) (omega arith) in
      rw (y, block_yes copy (block * i) y, place_yes (length copy) (block * i) y, p) (ap (λ (bs : List (List ℕ)). take block (drop (block * i) copy) ∷ bs) r)

  after_on : (i k n : ℕ) → block * (i + k) ≤ length copy → length copy < block * (i + k) + block → k ≤ n → place_after (length copy) (block * i) n ≡ block * (i + k)
  unfolding place_after
  after_on i zero n l m h =
      after_end (length copy) (block * i) n (more_no (length copy) (block * i) (omega arith))
      ∙ ap (λ (j : ℕ). block * j) (let e : i ≡ i + 0 = omega arith in e)
  after_on i (suc k) zero l m h = absurd (omega arith)
  after_on i (suc k) (suc n) l m h =
      let y = more_yes (length copy) (block * i) (omega arith) in
      let p : block * i + block ≡ block * (i + 1) = omega arith in
      rw (place_yes (length copy) (block * i) y, p)
      (after_on (i + 1) k n (omega arith) (omega arith) (omega arith) ∙ ap (λ (j : ℕ). block * j) (let e : i + 1 + k ≡ i + suc k = omega arith in e))

  joined_on : (i k : ℕ) → block * (i + k) ≤ length copy → joined (blocks_of copy i k) ≡ take (block * k) (drop (block * i) copy)
  unfolding blocks_of
  joined_on i zero l = refl
  joined_on i (suc k) l =
      let s : length (take block (drop (block * i) copy)) ≡ block = simp (length-take, length-drop) (omega arith) in
      let p : block * i + block ≡ block * (i + 1) = omega arith in
      ap (λ (bs : List ℕ). take block (drop (block * i) copy) ++ bs)
      (joined_on (i + 1) k (omega arith) ∙ ap (λ (j : ℕ). take (block * k) (drop j copy)) (sym p) ∙ ap (λ (b : List ℕ). take (block * k) b) (sym (drop-drop block (block * i) copy)))
      ∙ sym (take-append-add (take block (drop (block * i) copy)) (drop block (drop (block * i) copy)) (block * k))
      ∙ ap (λ (b : List ℕ). take (length (take block (drop (block * i) copy)) + block * k) b) (take-append-drop block (drop (block * i) copy))
      ∙ ap (λ (j : ℕ). take j (drop (block * i) copy)) (let e : length (take block (drop (block * i) copy)) + block * k ≡ block * suc k = omega arith in e)

  -- the whole blocks that a copy has
  abbrev pub whole : ℕ
  whole = length copy / block

  within : block * (0 + whole) ≤ length copy
  within = omega arith

  no_more : length copy < block * (0 + whole) + block
  no_more = omega arith

  -- From the start, ⌊length / 512⌋ steps or more hand out the copy's whole blocks in order,
  pub reads_blocks : (n : ℕ) → whole ≤ n → blocks_from copy 0 n ≡ blocks_of copy 0 whole
  reads_blocks n h = from_on 0 whole n within no_more h

  -- which are the copy up to where the last of them ends,
  pub reads_copy : (n : ℕ) → whole ≤ n → joined (blocks_from copy 0 n) ≡ take (block * whole) copy
  reads_copy n h = ap joined (reads_blocks n h) ∙ joined_on 0 whole within

  -- and the reader's place is then there.
  pub reads_to_end : (n : ℕ) → whole ≤ n → place_after (length copy) 0 n ≡ block * whole
  reads_to_end n h = after_on 0 whole n within no_more h ∙ ap (λ (j : ℕ). block * j) (zero-add whole)

  -- There it says that it is at the end, hands out nothing and stays.
  pub stays_at_end : (place_at (length copy) (block * whole) ≡ record { more = false; at = block * whole }) × (block_at copy (block * whole) ≡ [])
  unfolding place_at block_at
  stays_at_end = let e = more_no (length copy) (block * whole) (omega arith) in (rw e, rw e)

-- as many blocks as asked for
pub blocks_count : (copy : List ℕ) (i n : ℕ) → length (blocks_of copy i n) ≡ n
unfolding blocks_of
blocks_count copy i zero = refl
blocks_count copy i (suc n) = ap suc (blocks_count copy (i + 1) n)
