-- What is written is intact and reads back exactly, and intact bytes are those of the sheet that they say: nothing is lost on either way.
-- Assumes nothing.
use Rattle.std.specs.Prelude.{◌≡◌, ℕ, ◌+◌, ◌%◌, ◌^◌, ◌<◌, true, List, [], ◌∷◌, ◌++◌, length, slice_index, refl}
use Rattle.std.proofs.Common.{sym, ap, ◌∙◌, arith, mod-lt, eqb-true, eq-eqb}
use Rattle.choices.specs.Tests.{holds, each}
use Rattle.littleendian.specs.Numbers.{bytes_of, value_of, value_at}
use Rattle.littleendian.specs.Back.{value_back, run, run_all, both, join, eight, Bytes, bytes_kept}
use Rattle.sheets.specs.declared.Sheet.{Sheet}
use Rattle.sheets.specs.Sheets.{possible}
use Rattle.sheet_layout.specs.Layout.{mark, eights_of, eights_at, total, totals, check_of, sheet_bytes, sheet_at, sheet_intact}

-- what the types of a sheet's numbers and array say
pub record Typed (s : Sheet) : Type 0 where
  pub eight : length s.runs ≡ 8
  pub runs : (i : ℕ) → slice_index s.runs i < 256 ^ 8
  pub blocks : s.blocks < 256 ^ 8
  pub commands : s.commands < 256 ^ 8
  pub failed : s.failed < 256 ^ 8

eights_back : (a : List ℕ) → length a ≡ 8 → ((i : ℕ) → slice_index a i < 256 ^ 8) → eights_at 0 (eights_of a) ≡ a
eights_back a l h =
    eight (at 0) (at 1) (at 2) (at 3) (at 4) (at 5) (at 6) (at 7) ∙ run_all 8 a l
  where
    at : (i : ℕ) → value_of (bytes_of 8 (slice_index a i)) ≡ slice_index a i
    at i = value_back 8 (slice_index a i) (h i)

same_sheet : (s : Sheet) {runs : List ℕ} {blocks commands failed : ℕ} → runs ≡ s.runs → blocks ≡ s.blocks → commands ≡ s.commands → failed ≡ s.failed
    → record { runs = runs; blocks = blocks; commands = commands; failed = failed } ≡ s
same_sheet s r k c f = rw (r, k, c, f)

-- a written sheet reads back to what was written
pub sheet_back : (s : Sheet) → Typed s → sheet_at (sheet_bytes s) ≡ s
unfolding sheet_at sheet_bytes
sheet_back s t =
    same_sheet s (eights_back s.runs t.eight t.runs) (value_back 8 s.blocks t.blocks) (value_back 8 s.commands t.commands)
    (value_back 8 s.failed t.failed)

check_small : (s : Sheet) → check_of s < 256 ^ 8
unfolding check_of
check_small s = mod-lt (mark + total (totals s)) (omega arith)

check_back : (s : Sheet) → value_at 8 96 (sheet_bytes s) ≡ check_of s
unfolding sheet_bytes
check_back s = value_back 8 (check_of s) (check_small s)

mark_back : (s : Sheet) → value_at 8 0 (sheet_bytes s) ≡ mark
unfolding sheet_bytes
mark_back s = refl

-- and is intact, if some runs have it
pub sheet_intact_lem : (s : Sheet) → Typed s → possible s ≡ true → sheet_intact (sheet_bytes s) ≡ true
unfolding sheet_intact holds
sheet_intact_lem s t p = rw (sheet_back s t, p, eq-eqb _ _ (mark_back s), eq-eqb _ _ (check_back s))

-- ---- what the check finds

total_split : (before after : List ℕ) (x : ℕ) → total (before ++ (x ∷ after)) ≡ x + total (before ++ after)
total_split [] after x = refl
total_split (n ∷ before) after x = let h = total_split before after x in omega arith

same_sum : (r x y : ℕ) → x < 256 ^ 8 → y < 256 ^ 8 → (r + x) % 2 ^ 64 ≡ (r + y) % 2 ^ 64 → x ≡ y
same_sum r x y h k e = omega arith

-- totals that differ in one place at most, with the same check, are the same: any one number changed is found
pub check_tells : (s t : Sheet) (before after : List ℕ) (x y : ℕ) → totals s ≡ before ++ (x ∷ after) → totals t ≡ before ++ (y ∷ after)
    → x < 256 ^ 8 → y < 256 ^ 8 → check_of s ≡ check_of t → totals s ≡ totals t
unfolding check_of
check_tells s t before after x y es et h k c =
    let p = ap (λ (n : ℕ). (mark + n) % 2 ^ 64) (ap total es ∙ total_split before after x) in
    let q = ap (λ (n : ℕ). (mark + n) % 2 ^ 64) (ap total et ∙ total_split before after y) in
    let same : x ≡ y = same_sum (mark + total (before ++ after)) x y h k (turn x ∙ sym p ∙ c ∙ q ∙ sym (turn y)) in
    es ∙ ap (λ (n : ℕ). before ++ (n ∷ after)) same ∙ sym et
  where
    turn : (n : ℕ) → (mark + total (before ++ after) + n) % 2 ^ 64 ≡ (mark + (n + total (before ++ after))) % 2 ^ 64
    turn n = ap (λ (m : ℕ). m % 2 ^ 64) (omega arith)

-- ---- bytes

eights_kept : (b : List ℕ) → Bytes b
    → eights_of (eights_at 8 b) ≡ run 8 8 b ++ run 8 16 b ++ run 8 24 b ++ run 8 32 b ++ run 8 40 b ++ run 8 48 b ++ run 8 56 b ++ run 8 64 b
eights_kept b t =
    let half = join (bytes_kept 8 8 b t) (bytes_kept 8 16 b t) (bytes_kept 8 24 b t) (bytes_kept 8 32 b t) in
    both (join half (bytes_kept 8 40 b t) (bytes_kept 8 48 b t) (bytes_kept 8 56 b t)) (bytes_kept 8 64 b t)

-- intact bytes are the bytes of the sheet that they say
pub sheet_bytes_back : (b : List ℕ) → length b ≡ 104 → Bytes b → sheet_intact b ≡ true → sheet_bytes (sheet_at b) ≡ b
unfolding sheet_bytes sheet_at sheet_intact
sheet_bytes_back b l t s =
    let marked = ap (λ (n : ℕ). bytes_of 8 n) (sym (eqb-true (value_at 8 0 b) mark (each _ s 0))) ∙ bytes_kept 8 0 b t in
    let checked = ap (λ (n : ℕ). bytes_of 8 n) (sym (eqb-true (value_at 8 96 b) (check_of (sheet_at b)) (each _ s 1))) ∙ bytes_kept 8 96 b t in
    both (join (both marked (eights_kept b t)) (bytes_kept 8 72 b t) (bytes_kept 8 80 b t) (bytes_kept 8 88 b t)) checked ∙ run_all 104 b l
