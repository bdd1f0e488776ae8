-- What the code's calls come to, one after another.
-- Assumes nothing.
use Rattle.std.specs.Prelude.{ℕ, ◌≡◌, refl, List, Bool, true, false, ◌&&◌, Result, Ok, Err, is_ok, replicate}
use Rattle.std.proofs.Common.{sym, ap, ◌∙◌, eq-eqb, ne_eqb}
use Rattle.choices.specs.Choice.{pick}
use Rattle.choices.specs.Tests.{clash, by_test}
use Rattle.answers.specs.Answers.{success, bad_setup}
use Rattle.answers.specs.declared.Refusal.{Refusal}
use Rattle.answers.specs.declared.Refusal.TheVariants.{BadSetup}
use Rattle.sheets.specs.declared.Sheet.{Sheet}
use Rattle.sheets.specs.Sheets.{Entered, Mean, outcome, add_of, no_mean, mean_of}
use Rattle.sheets.specs.Steps.{said}
use Rattle.entries.specs.declared.Run.{Run}
use Rattle.entries.specs.Entries.{enter_of}
use Rattle.sheet_layout.specs.Layout.{sheet_bytes, sheet_at, sheet_intact, mean_bytes}
use Rattle.sheet_boundary.specs.Boundary.{damaged, enter_at, add_at, bytes_after, mean_answer, mean_at}

-- the sheet that the bytes say, unless they are damaged
abbrev pub sheet_of : List ℕ → Result Sheet Refusal
sheet_of b = pick (sheet_intact b) (Ok (sheet_at b)) (Err BadSetup)

-- what is read is the intact sheet
pub record Read (b : List ℕ) (s : Sheet) : Type 0 where
  pub intact : sheet_intact b ≡ true
  pub is : s ≡ sheet_at b

pub read_ok : (b : List ℕ) (s : Sheet) → Ok s ≡ sheet_of b → Read b s
read_ok b s =
    by_test (sheet_intact b)
    (λ t. rw t (λ e. record { intact = t; is = ap (λ (x : Result Sheet Refusal). (outcome s x).sheet) e }))
    (λ t. rw t (λ e. clash (sym (ap is_ok e)) refl))

-- what is refused is damaged
pub record Refused (b : List ℕ) (x : Refusal) : Type 0 where
  pub damaged : sheet_intact b ≡ false
  pub is : x ≡ BadSetup

pub read_err : (b : List ℕ) (x : Refusal) → Err x ≡ sheet_of b → Refused b x
read_err b x =
    by_test (sheet_intact b)
    (λ t. rw t (λ e. clash (ap is_ok e) refl))
    (λ t. rw t (λ e. record { damaged = t; is = ap said e }))

pub written : (lent : List ℕ) (x : Entered) {b : List ℕ} → x.answer ≡ success → b ≡ sheet_bytes x.sheet → b ≡ bytes_after lent x
written lent x e f = rw (eq-eqb x.answer success e) f

pub kept : (lent : List ℕ) (x : Entered) → (x.answer ≡ success → ⊥) → lent ≡ bytes_after lent x
kept lent x n = rw (ne_eqb x.answer success n)

pub enter_taken : (b : List ℕ) (r : Run) {s : Sheet} {t : Bool} {x : Entered} → s ≡ sheet_at b → t ≡ sheet_intact b → t ≡ true → x ≡ enter_of s r → x ≡ enter_at b r
unfolding enter_at
enter_taken b r es et p f = rw (← et, p) (f ∙ ap (λ (y : Sheet). enter_of y r) es)

pub enter_damaged : (b : List ℕ) (r : Run) {s : Sheet} {t : Bool} {x : Entered} → s ≡ sheet_at b → t ≡ sheet_intact b → t ≡ false → x ≡ damaged s → x ≡ enter_at b r
unfolding enter_at
enter_damaged b r es et p f = rw (← et, p) (f ∙ ap (λ (y : Sheet). damaged y) es)

pub add_taken : (b more : List ℕ) {s o : Sheet} {t u : Bool} {x : Entered} → s ≡ sheet_at b → o ≡ sheet_at more → t ≡ sheet_intact b → u ≡ sheet_intact more
    → t && u ≡ true → x ≡ add_of s o → x ≡ add_at b more
unfolding add_at
add_taken b more {o = o} es eo et eu p f = rw (← et, ← eu, p) (f ∙ ap (λ (y : Sheet). add_of y o) es ∙ ap (λ (y : Sheet). add_of (sheet_at b) y) eo)

pub add_damaged : (b more : List ℕ) {s : Sheet} {t u : Bool} {x : Entered} → s ≡ sheet_at b → t ≡ sheet_intact b → u ≡ sheet_intact more
    → t && u ≡ false → x ≡ damaged s → x ≡ add_at b more
unfolding add_at
add_damaged b more es et eu p f = rw (← et, ← eu, p) (f ∙ ap (λ (y : Sheet). damaged y) es)

-- an answer and the bytes afterwards
pub answers_with : (b : List ℕ) {x y : Entered} {after : List ℕ} → x ≡ y → after ≡ bytes_after b x → (x.answer ≡ y.answer) × (after ≡ bytes_after b y)
answers_with b e f = (ap (λ (z : Entered). z.answer) e, f ∙ ap (λ (z : Entered). bytes_after b z) e)

pub mean_told : (b : List ℕ) {s : Sheet} {t : Bool} {m : Mean} {out : List ℕ} → t ≡ sheet_intact b → t ≡ true → s ≡ sheet_at b → m ≡ mean_of s → out ≡ mean_bytes m
    → (success ≡ mean_answer b) × (out ≡ mean_bytes (mean_at b))
unfolding mean_at
mean_told b et p es em f = (rw (← et, p), rw (← et, p) (f ∙ ap (λ (m : Mean). mean_bytes m) (em ∙ ap (λ (y : Sheet). mean_of y) es)))

-- no mean is zeros
pub mean_zeros : (b : List ℕ) {t : Bool} → t ≡ sheet_intact b → t ≡ false → (bad_setup ≡ mean_answer b) × (replicate 24 0 ≡ mean_bytes (mean_at b))
unfolding mean_at mean_bytes
mean_zeros b et p = (rw (← et, p), rw (← et, p) refl)

pub mean_untold : (b : List ℕ) {t : Bool} {m : Mean} {out : List ℕ} → t ≡ sheet_intact b → t ≡ false → m ≡ no_mean → out ≡ mean_bytes m
    → (bad_setup ≡ mean_answer b) × (out ≡ mean_bytes (mean_at b))
unfolding mean_at
mean_untold b et p em f = (rw (← et, p), rw (← et, p) (f ∙ ap (λ (m : Mean). mean_bytes m) em))
