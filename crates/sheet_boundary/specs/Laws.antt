-- What a caller across the boundary may rest on: a refusal changes no byte, a damaged sheet is refused, what is written can be lent again, intact bytes are what
-- entering some runs leaves, and whatever is entered, the bytes are those of the exact totals of the runs that were taken.
-- Assumes nothing.
use Rattle.std.specs.Prelude.{ℕ, zero, suc, ◌+◌, ◌<◌, ◌^◌, ◌≡◌, refl, true, false, ◌&&◌, length, get_or, eqb}
use Rattle.std.proofs.Common.{sym, ap, subst, ◌∙◌, arith, add-zero, leb-true, le-leb, eq-eqb, ne_eqb}
use mathlib.Core.List.{List, [], ◌∷◌, Permᴰ}
use Rattle.choices.specs.Choice.{pick_cases}
use Rattle.choices.specs.Tests.{holds, each, by_test}
use Rattle.answers.specs.Answers.{success, bad_setup}
use Rattle.littleendian.specs.Back.{Bytes, run_all, value_small}
use Rattle.sheets.specs.declared.Sheet.{Sheet}
use Rattle.sheets.specs.Sheets.{Entered, greatest, blank, plus, fits, all_fit, add_of, possible}
use Rattle.sheets.specs.Sums.{is_fit}
use Rattle.sheets.specs.Laws.{add_taken, add_20}
use Rattle.sheets.specs.Possible.{blank_possible, add_possible}
use Rattle.entries.specs.declared.Run.{Run}
use Rattle.entries.specs.Entries.{single, enter_of}
use Rattle.entries.specs.Laws.{entry, after, enter_taken, enter_all, NoneRefused, taken_of, totals_of, exactly, in_any_order}
use Rattle.entries.specs.Reached.{enter_possible, runs_for, entered_reached}
use Rattle.sheet_layout.specs.Layout.{eights_at, sheet_bytes, sheet_at, sheet_intact}
use Rattle.sheet_layout.specs.Back.{Typed, sheet_back, sheet_intact_lem, sheet_bytes_back}
use Rattle.sheet_boundary.specs.Boundary.{enter_at, add_at, bytes_after, mean_answer}

-- ---- refusals

-- whatever is refused leaves the sheet's bytes as lent
pub refusal_keeps : (b : List ℕ) (x : Entered) → (x.answer ≡ success → ⊥) → bytes_after b x ≡ b
refusal_keeps b x n = rw (ne_eqb x.answer success n)

-- a damaged sheet gets 13
pub enter_damaged : (b : List ℕ) (r : Run) → sheet_intact b ≡ false → (enter_at b r).answer ≡ bad_setup
unfolding enter_at
enter_damaged b r e = rw e

pub add_damaged : (b more : List ℕ) → sheet_intact b && sheet_intact more ≡ false → (add_at b more).answer ≡ bad_setup
unfolding add_at
add_damaged b more e = rw e

pub mean_damaged : (b : List ℕ) → sheet_intact b ≡ false → mean_answer b ≡ bad_setup
mean_damaged b e = rw e

-- ---- what is written is lent again

-- a sheet that the library writes: its numbers are of their types, and some runs have it
pub record Held (s : Sheet) : Type 0 where
  pub typed : Typed s
  pub can : possible s ≡ true

pub held_intact : (s : Sheet) → Held s → sheet_intact (sheet_bytes s) ≡ true
held_intact s h = sheet_intact_lem s h.typed h.can

small : (a b : ℕ) → fits a b ≡ true → a + b < 256 ^ 8
small a b e = let p = leb-true (a + b) greatest e in omega arith

sum_typed : (a b : Sheet) → all_fit a b ≡ true → Typed (plus a b)
unfolding all_fit plus
sum_typed a b e = record {
  eight = refl;
  runs = at;
  blocks = small a.blocks b.blocks (each _ e 0);
  commands = small a.commands b.commands (each _ e 1);
  failed = small a.failed b.failed (each _ e 2);
}
  where
    one_of : (i : ℕ) → fits (get_or a.runs i 0) (get_or b.runs i 0) ≡ true → get_or a.runs i 0 + get_or b.runs i 0 < 256 ^ 8
    one_of i = small (get_or a.runs i 0) (get_or b.runs i 0)

    at : (i : ℕ) → get_or (plus a b).runs i 0 < 256 ^ 8
    at zero = one_of 0 (each _ e 3)
    at (suc zero) = one_of 1 (each _ e 4)
    at (suc (suc zero)) = one_of 2 (each _ e 5)
    at (suc (suc (suc zero))) = one_of 3 (each _ e 6)
    at (suc (suc (suc (suc zero)))) = one_of 4 (each _ e 7)
    at (suc (suc (suc (suc (suc zero))))) = one_of 5 (each _ e 8)
    at (suc (suc (suc (suc (suc (suc zero)))))) = one_of 6 (each _ e 9)
    at (suc (suc (suc (suc (suc (suc (suc zero))))))) = one_of 7 (each _ e 10)
    at (suc (suc (suc (suc (suc (suc (suc (suc i)))))))) = omega arith

pub blank_held : Held blank
blank_held = record { typed = record { eight = refl; runs = none; blocks = omega arith; commands = omega arith; failed = omega arith }; can = blank_possible }
  where
    none : (i : ℕ) → get_or blank.runs i 0 < 256 ^ 8
    none zero = omega arith
    none (suc zero) = omega arith
    none (suc (suc zero)) = omega arith
    none (suc (suc (suc zero))) = omega arith
    none (suc (suc (suc (suc zero)))) = omega arith
    none (suc (suc (suc (suc (suc zero))))) = omega arith
    none (suc (suc (suc (suc (suc (suc zero)))))) = omega arith
    none (suc (suc (suc (suc (suc (suc (suc zero))))))) = omega arith
    none (suc (suc (suc (suc (suc (suc (suc (suc i)))))))) = omega arith

pub add_held : (s other : Sheet) → Held s → Held other → Held (add_of s other).sheet
add_held s other h k = record {
  typed =
      by_test (all_fit s other) (λ p. subst Typed (ap (λ (x : Entered). sheet_of x) (sym (add_taken s other p))) (sum_typed s other p))
      (λ p. subst Typed (ap (λ (x : Entered). sheet_of x) (sym (add_20 s other p))) h.typed);
  can = add_possible s other h.can k.can;
}
  where
    sheet_of : Entered → Sheet
    sheet_of x = x.sheet

pub enter_held : (s : Sheet) (r : Run) → Held s → Held (enter_of s r).sheet
enter_held s r h = record {
  typed = entry s r (λ t. subst Typed (sym (after s r t)) (sum_typed s (single r) t.fit)) (λ e n. subst Typed (sym e) h.typed);
  can = enter_possible s r h.can;
}

-- intact bytes, from a file or wherever, say such a sheet
pub intact_held : (b : List ℕ) → Bytes b → sheet_intact b ≡ true → Held (sheet_at b)
unfolding sheet_intact sheet_at
intact_held b t i = record {
  typed = record { eight = refl; runs = at; blocks = value_small 8 72 b t; commands = value_small 8 80 b t; failed = value_small 8 88 b t };
  can = each _ i 2;
}
  where
    at : (i : ℕ) → get_or (eights_at 8 b) i 0 < 256 ^ 8
    at zero = value_small 8 8 b t
    at (suc zero) = value_small 8 16 b t
    at (suc (suc zero)) = value_small 8 24 b t
    at (suc (suc (suc zero))) = value_small 8 32 b t
    at (suc (suc (suc (suc zero)))) = value_small 8 40 b t
    at (suc (suc (suc (suc (suc zero))))) = value_small 8 48 b t
    at (suc (suc (suc (suc (suc (suc zero)))))) = value_small 8 56 b t
    at (suc (suc (suc (suc (suc (suc (suc zero))))))) = value_small 8 64 b t
    at (suc (suc (suc (suc (suc (suc (suc (suc i)))))))) = omega arith

after_intact : (b : List ℕ) (x : Entered) → sheet_intact b ≡ true → Held x.sheet → sheet_intact (bytes_after b x) ≡ true
after_intact b x i h = pick_cases (λ (c : List ℕ). sheet_intact c ≡ true) (eqb x.answer success) (λ e. held_intact x.sheet h) (λ e. i)

-- an intact sheet stays intact, whatever is entered or added
pub enter_intact : (b : List ℕ) (r : Run) → Bytes b → sheet_intact b ≡ true → sheet_intact (bytes_after b (enter_at b r)) ≡ true
unfolding enter_at
enter_intact b r t i = rw i (after_intact b (enter_of (sheet_at b) r) i (enter_held (sheet_at b) r (intact_held b t i)))

pub add_intact : (b more : List ℕ) → Bytes b → Bytes more → sheet_intact b ≡ true → sheet_intact more ≡ true
    → sheet_intact (bytes_after b (add_at b more)) ≡ true
unfolding add_at
add_intact b more t u i k =
    rw (i, k) (after_intact b (add_of (sheet_at b) (sheet_at more)) i (add_held (sheet_at b) (sheet_at more) (intact_held b t i) (intact_held more u k)))

-- ---- across the boundary

-- an entry into a written sheet is the entry into that sheet
pub enter_written : (s : Sheet) (r : Run) → Held s → enter_at (sheet_bytes s) r ≡ enter_of s r
unfolding enter_at
enter_written s r h = rw (held_intact s h, sheet_back s h.typed)

pub add_written : (s other : Sheet) → Held s → Held other → add_at (sheet_bytes s) (sheet_bytes other) ≡ add_of s other
unfolding add_at
add_written s other h k = rw (held_intact s h, held_intact other k, sheet_back s h.typed, sheet_back other k.typed)

-- the bytes that it leaves
entered_bytes : (s : Sheet) (r : Run) → Held s → bytes_after (sheet_bytes s) (enter_at (sheet_bytes s) r) ≡ sheet_bytes (enter_of s r).sheet
entered_bytes s r h =
    ap (λ (x : Entered). bytes_after (sheet_bytes s) x) (enter_written s r h)
    ∙ entry s r (λ t. rw (eq-eqb (enter_of s r).answer success (ap (λ (x : Entered). x.answer) (enter_taken s r t))))
    (λ e n. refusal_keeps (sheet_bytes s) (enter_of s r) n ∙ ap sheet_bytes (sym e))

-- the runs entered one after another into lent bytes
abbrev pub enter_bytes : List ℕ → List Run → List ℕ
enter_bytes b [] = b
enter_bytes b (r ∷ rs) = enter_bytes (bytes_after b (enter_at b r)) rs

pub entered_all : (s : Sheet) (rs : List Run) → Held s → enter_bytes (sheet_bytes s) rs ≡ sheet_bytes (enter_all s rs)
entered_all s [] h = refl
entered_all s (r ∷ rs) h = ap (λ (b : List ℕ). enter_bytes b rs) (entered_bytes s r h) ∙ entered_all (enter_of s r).sheet rs (enter_held s r h)

all_held : (s : Sheet) (rs : List Run) → Held s → Held (enter_all s rs)
all_held s [] h = h
all_held s (r ∷ rs) h = all_held (enter_of s r).sheet rs (enter_held s r h)

-- what C is answered on the way is what the definitions answer
pub answered_across : (qs : List Run) (r : Run) → enter_at (enter_bytes (sheet_bytes blank) qs) r ≡ enter_of (enter_all blank qs) r
answered_across qs r =
    ap (λ (b : List ℕ). enter_at b r) (entered_all blank qs blank_held) ∙ enter_written (enter_all blank qs) r (all_held blank qs blank_held)

-- where no entry is refused, the same runs in another order leave the same bytes
pub same_bytes : {qs rs : List Run} → Permᴰ qs rs → NoneRefused blank qs → enter_bytes (sheet_bytes blank) qs ≡ enter_bytes (sheet_bytes blank) rs
same_bytes {qs = qs} {rs = rs} d n =
    entered_all blank qs blank_held ∙ ap sheet_bytes (in_any_order blank d n).1 ∙ sym (entered_all blank rs blank_held)

whole : (s : Sheet) → Typed s → plus s blank ≡ s
unfolding plus
whole s t = simp add-zero (ap (λ (l : List ℕ). record { runs = l; blocks = s.blocks; commands = s.commands; failed = s.failed }) (run_all 8 s.runs t.eight))

within : (x : ℕ) → x < 256 ^ 8 → fits x 0 ≡ true
within x h = le-leb (x + 0) greatest (omega arith)

typed_fit : (s : Sheet) → Typed s → is_fit s ≡ true
unfolding all_fit holds
typed_fit s t =
    rw (
      within s.blocks t.blocks,
      within s.commands t.commands,
      within s.failed t.failed,
      within (get_or s.runs 0 0) (t.runs 0),
      within (get_or s.runs 1 0) (t.runs 1),
      within (get_or s.runs 2 0) (t.runs 2),
      within (get_or s.runs 3 0) (t.runs 3),
      within (get_or s.runs 4 0) (t.runs 4),
      within (get_or s.runs 5 0) (t.runs 5),
      within (get_or s.runs 6 0) (t.runs 6),
      within (get_or s.runs 7 0) (t.runs 7),
    )

-- **Damaged or had by runs**: intact bytes are just what entering some runs into a new sheet leaves
pub intact_entered : (b : List ℕ) → length b ≡ 104 → Bytes b → sheet_intact b ≡ true → enter_bytes (sheet_bytes blank) (runs_for (sheet_at b)) ≡ b
intact_entered b l t i =
    let h = intact_held b t i in
    entered_all blank (runs_for (sheet_at b)) blank_held
    ∙ ap sheet_bytes (entered_reached (sheet_at b) (whole (sheet_at b) h.typed) (typed_fit (sheet_at b) h.typed) h.can).1
    ∙ sheet_bytes_back b l t i

-- **Exact, across C**: from a new sheet, whatever is entered, the bytes are those of the exact totals of the runs that were taken
pub exact_bytes : (rs : List Run) → enter_bytes (sheet_bytes blank) rs ≡ sheet_bytes (totals_of (taken_of blank rs))
exact_bytes rs = entered_all blank rs blank_held ∙ ap sheet_bytes (exactly rs)
