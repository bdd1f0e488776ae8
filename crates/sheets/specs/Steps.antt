-- What the code's calls come to.
-- Assumes nothing.
use Rattle.std.specs.Prelude.{◌≡◌, ℕ, zero, suc, ◌+◌, ◌-◌, ◌%◌, ◌^◌, ◌≤◌, ◌<◌, is_some, replicate, leb, map, length, ◌||◌, Bool, true, false, ◌&&◌, List, [], ◌∷◌, Option, Some, None, Result, Ok, Err, ◌≢◌, nat_le, slice_index, refl}
use Rattle.std.proofs.Common.{sym, ap, ◌∙◌, set, arith, mod-eq_of_lt, leb-true, leb-false, le-leb, eq-eqb, ne_eqb}
use Rattle.std.specs.Option.{unwrap_or, ok_or}
use Rattle.std.specs.List.{list_any}
use mir.Val.{bool_byte}
use Rattle.std.proofs.lemmas.Bool.{lt-leb}
use Rattle.choices.specs.Choice.{pick, one}
use Rattle.choices.specs.Tests.{clash, by_test, and_right, holds, each}
use Rattle.answers.specs.Answers.{success, total_full}
use Rattle.answers.specs.declared.Refusal.{Refusal}
use Rattle.answers.specs.declared.Refusal.TheVariants.{BadSetup, TotalFull}
use Rattle.sheets.specs.declared.Sheet.{Sheet}
use Rattle.sheets.specs.Sheets.{or_from, any_run, Entered, greatest, good, each_of, fits, all_fit, plus, answered, outcome, add_of, no_mean, shared, mean_of}
use Rattle.sheets.specs.Turns.{turns, turned}

-- the refusal in an answer, so that two answers that are the same have the same one
abbrev pub said : {A : Type 0} → Result A Refusal → Refusal
said (Ok x) = BadSetup
said (Err r) = r

-- the sum of two totals, modulo 2^64
abbrev pub wrap : ℕ → ℕ → ℕ
wrap a b = (a + b) % 2 ^ 64

-- the runs of each ending
unfoldable pub wrapped_runs : List ℕ → List ℕ → List ℕ
wrapped_runs p q = each_of (λ (i : ℕ). wrap (slice_index p i) (slice_index q i))

-- every total is the sum of the two, modulo 2^64
unfoldable pub wrapped : Sheet → Sheet → Sheet
wrapped a b = record {
  runs = wrapped_runs a.runs b.runs;
  blocks = wrap a.blocks b.blocks;
  commands = wrap a.commands b.commands;
  failed = wrap a.failed b.failed;
}

-- no sum of runs of one ending would pass the greatest total
unfoldable pub runs_fit : List ℕ → List ℕ → Bool
runs_fit p q = holds (each_of (λ (i : ℕ). fits (slice_index p i) (slice_index q i)))

-- the sum of two totals, if it is one
abbrev pub sum_of : ℕ → ℕ → Option ℕ
sum_of a b = pick (fits a b) (Some (a + b)) None

-- the sums of the runs of each ending, if all are totals
abbrev pub runs_summed : List ℕ → List ℕ → Option (List ℕ)
runs_summed p q = pick (runs_fit p q) (Some (each_of (λ (i : ℕ). slice_index p i + slice_index q i))) None

-- one more of them in its place
abbrev pub set_sum : List ℕ → List ℕ → List ℕ → ℕ → List ℕ
set_sum p q r i = set r i (slice_index p i + slice_index q i)

-- the sums of two sheets, if all are totals
abbrev pub summed : Sheet → Sheet → Option Sheet
summed a b = pick (all_fit a b) (Some (plus a b)) None

exact : (a b : ℕ) → fits a b ≡ true → wrap a b ≡ a + b
exact a b e = let h = leb-true (a + b) greatest e in mod-eq_of_lt (omega arith)

-- where every sum fits, they are exact
pub exact_sums : (a b : Sheet) → all_fit a b ≡ true → wrapped a b ≡ plus a b
unfolding all_fit wrapped_runs wrapped plus
exact_sums a b e =
    rw (
      exact a.blocks b.blocks (each _ e 0),
      exact a.commands b.commands (each _ e 1),
      exact a.failed b.failed (each _ e 2),
      exact (slice_index a.runs 0) (slice_index b.runs 0) (each _ e 3),
      exact (slice_index a.runs 1) (slice_index b.runs 1) (each _ e 4),
      exact (slice_index a.runs 2) (slice_index b.runs 2) (each _ e 5),
      exact (slice_index a.runs 3) (slice_index b.runs 3) (each _ e 6),
      exact (slice_index a.runs 4) (slice_index b.runs 4) (each _ e 7),
      exact (slice_index a.runs 5) (slice_index b.runs 5) (each _ e 8),
      exact (slice_index a.runs 6) (slice_index b.runs 6) (each _ e 9),
      exact (slice_index a.runs 7) (slice_index b.runs 7) (each _ e 10),
    )

-- the sums one by one
pub runs_are : (p q : List ℕ) {n0 n1 n2 n3 n4 n5 n6 n7 : ℕ}
    → n0 ≡ wrap (slice_index p 0) (slice_index q 0) → n1 ≡ wrap (slice_index p 1) (slice_index q 1) → n2 ≡ wrap (slice_index p 2) (slice_index q 2) → n3 ≡ wrap (slice_index p 3) (slice_index q 3)
    → n4 ≡ wrap (slice_index p 4) (slice_index q 4) → n5 ≡ wrap (slice_index p 5) (slice_index q 5) → n6 ≡ wrap (slice_index p 6) (slice_index q 6) → n7 ≡ wrap (slice_index p 7) (slice_index q 7)
    → n0 ∷ n1 ∷ n2 ∷ n3 ∷ n4 ∷ n5 ∷ n6 ∷ n7 ∷ [] ≡ wrapped_runs p q
unfolding wrapped_runs
runs_are p q e0 e1 e2 e3 e4 e5 e6 e7 = rw (e0, e1, e2, e3, e4, e5, e6, e7)

pub sums_are : (a b : Sheet) {runs : List ℕ} {blocks commands failed : ℕ} → runs ≡ wrapped_runs a.runs b.runs
    → blocks ≡ wrap a.blocks b.blocks → commands ≡ wrap a.commands b.commands → failed ≡ wrap a.failed b.failed
    → record { runs = runs; blocks = blocks; commands = commands; failed = failed } ≡ wrapped a b
unfolding wrapped
sums_are a b r k c f = rw (r, k, c, f)

-- the tests one by one
pub runs_fit_is : (p q : List ℕ) {t0 t1 t2 t3 t4 t5 t6 t7 : Bool}
    → t0 ≡ fits (slice_index p 0) (slice_index q 0) → t1 ≡ fits (slice_index p 1) (slice_index q 1) → t2 ≡ fits (slice_index p 2) (slice_index q 2) → t3 ≡ fits (slice_index p 3) (slice_index q 3)
    → t4 ≡ fits (slice_index p 4) (slice_index q 4) → t5 ≡ fits (slice_index p 5) (slice_index q 5) → t6 ≡ fits (slice_index p 6) (slice_index q 6) → t7 ≡ fits (slice_index p 7) (slice_index q 7)
    → t0 && t1 && t2 && t3 && t4 && t5 && t6 && t7 ≡ runs_fit p q
unfolding runs_fit holds
runs_fit_is p q e0 e1 e2 e3 e4 e5 e6 e7 = rw (e0, e1, e2, e3, e4, e5, e6, e7)

pub all_fit_is : (a b : Sheet) {k c f r : Bool} → k ≡ fits a.blocks b.blocks → c ≡ fits a.commands b.commands
    → f ≡ fits a.failed b.failed → r ≡ runs_fit a.runs b.runs → k && c && f && r ≡ all_fit a b
unfolding all_fit runs_fit holds
all_fit_is a b ek ec ef er = rw (ek, ec, ef, er)
    (row (fits a.blocks b.blocks && fits a.commands b.commands && fits a.failed b.failed) (at 0) (at 1) (at 2) (at 3) (at 4) (at 5) (at 6) (at 7))
  where
    row : (x t0 t1 t2 t3 t4 t5 t6 t7 : Bool)
        → x && (t0 && t1 && t2 && t3 && t4 && t5 && t6 && t7) ≡ x && t0 && t1 && t2 && t3 && t4 && t5 && t6 && t7
    row true t0 t1 t2 t3 t4 t5 t6 t7 = refl
    row false t0 t1 t2 t3 t4 t5 t6 t7 = refl

    at : ℕ → Bool
    at i = fits (slice_index a.runs i) (slice_index b.runs i)

-- a test by what the first total leaves
pub fit_is : (a b : ℕ) → a ≤ greatest → nat_le b (greatest - a) ≡ fits a b
fit_is a b h =
    by_test (nat_le b (greatest - a))
    (λ e. let p = leb-true b (greatest - a) e in e ∙ sym (le-leb (a + b) greatest (omega arith)))
    (λ e. let p = leb-false b (greatest - a) e in e ∙ sym (lt-leb (a + b) greatest (omega arith)))

-- a test as a number, as the crates above count it
pub number_is : (t : Bool) → bool_byte t ≡ one t
number_is true = refl
number_is false = refl

-- ---- the two ways of an addition and of a mean

pub added : (s other : Sheet) {sum : Sheet} {t : Bool} {x : Entered} → t ≡ all_fit s other → t ≡ true → sum ≡ wrapped s other → x ≡ answered success sum
    → x ≡ add_of s other
unfolding add_of
added s other e p f g = rw (← e, p) (g ∙ ap (λ (y : Sheet). answered success y) (f ∙ exact_sums s other (sym e ∙ p)))

pub full : (s other : Sheet) {t : Bool} {x : Entered} → t ≡ all_fit s other → t ≡ false → x ≡ answered total_full s → x ≡ add_of s other
unfolding add_of
full s other e p g = rw (← e, p) g

pub no_mean_lem : (s : Sheet) → good s ≡ 0 → no_mean ≡ mean_of s
unfolding mean_of
no_mean_lem s e = rw (eq-eqb (good s) 0 e)

pub a_mean : (s : Sheet) → (good s ≢ 0) → shared s.blocks (good s) ≡ mean_of s
unfolding mean_of
a_mean s n = rw (ne_eqb (good s) 0 n)

-- ---- sums one by one, each a total or none

-- what there is by a test, or none
by_some : {A : Type 0} (t : Bool) (x y : A) → Some y ≡ pick t (Some x) None → (t ≡ true) × (y ≡ x)
by_some true x y e = (refl, ap (λ (o : Option _). unwrap_or o y) e)
by_some false x y e = clash refl (ap is_some e)

by_none : {A : Type 0} (t : Bool) (x : A) → None ≡ pick t (Some x) None → t ≡ false
by_none true x e = clash (ap is_some e) refl
by_none false x e = refl

sum_some : (a b n : ℕ) → Some n ≡ sum_of a b → (fits a b ≡ true) × (n ≡ a + b)
sum_some a b n e = by_some (fits a b) (a + b) n e

sum_none : (a b : ℕ) → None ≡ sum_of a b → fits a b ≡ false
sum_none a b e = by_none (fits a b) (a + b) e

-- the runs of each ending
module _ (p q : List ℕ) where
  run_fits : (i : ℕ) → i < 8 → runs_fit p q ≡ true → fits (slice_index p i) (slice_index q i) ≡ true
  unfolding runs_fit
  run_fits zero h e = each _ e 0
  run_fits (suc zero) h e = each _ e 1
  run_fits (suc (suc zero)) h e = each _ e 2
  run_fits (suc (suc (suc zero))) h e = each _ e 3
  run_fits (suc (suc (suc (suc zero)))) h e = each _ e 4
  run_fits (suc (suc (suc (suc (suc zero))))) h e = each _ e 5
  run_fits (suc (suc (suc (suc (suc (suc zero)))))) h e = each _ e 6
  run_fits (suc (suc (suc (suc (suc (suc (suc zero))))))) h e = each _ e 7
  run_fits (suc (suc (suc (suc (suc (suc (suc (suc i)))))))) h e = absurd (omega arith)

  -- one sum is none
  pub runs_none : (i : ℕ) → i < 8 → None ≡ sum_of (slice_index p i) (slice_index q i) → None ≡ runs_summed p q
  runs_none i h e = by_test (runs_fit p q) (λ f. clash (run_fits i h f) (sum_none (slice_index p i) (slice_index q i) e)) (λ f. rw f)

  all_runs : ((k : ℕ) → k < 8 → fits (slice_index p k) (slice_index q k) ≡ true) → runs_fit p q ≡ true
  unfolding runs_fit holds
  all_runs h = rw (h 0 (omega arith), h 1 (omega arith), h 2 (omega arith), h 3 (omega arith), h 4 (omega arith), h 5 (omega arith), h 6 (omega arith), h 7 (omega arith))

  -- eight turns have set all of them
  pub runs_set : {r : List ℕ} (n : ℕ) → n ≡ 8 → ((k : ℕ) → k < n → fits (slice_index p k) (slice_index q k) ≡ true) → r ≡ turns (set_sum p q) (replicate 8 0) n
      → Some r ≡ runs_summed p q
  runs_set n w h e = rw (all_runs (λ k l. h k (omega arith))) (ap (λ (l : List ℕ). Some l) (turned (set_sum p q) (replicate 8 0) n w e))

-- every total
module _ (a b : Sheet) where
  unless : {t : Bool} → (all_fit a b ≡ true → t ≡ true) → t ≡ false → None ≡ summed a b
  unless f e = by_test (all_fit a b) (λ p. clash (f p) e) (λ p. rw p)

  -- one sum is none
  pub no_runs : None ≡ runs_summed a.runs b.runs → None ≡ summed a b
  no_runs e = unless (λ p. and_right _ (runs_fit a.runs b.runs) (all_fit_is a b refl refl refl refl ∙ p)) (by_none (runs_fit a.runs b.runs) _ e)

  pub no_blocks : None ≡ sum_of a.blocks b.blocks → None ≡ summed a b
  unfolding all_fit
  no_blocks e = unless (λ p. each _ p 0) (sum_none a.blocks b.blocks e)

  pub no_commands : None ≡ sum_of a.commands b.commands → None ≡ summed a b
  unfolding all_fit
  no_commands e = unless (λ p. each _ p 1) (sum_none a.commands b.commands e)

  pub no_failed : None ≡ sum_of a.failed b.failed → None ≡ summed a b
  unfolding all_fit
  no_failed e = unless (λ p. each _ p 2) (sum_none a.failed b.failed e)

  -- or there are all
  pub all_summed : {runs : List ℕ} {blocks commands failed : ℕ} → Some runs ≡ runs_summed a.runs b.runs → Some blocks ≡ sum_of a.blocks b.blocks
      → Some commands ≡ sum_of a.commands b.commands → Some failed ≡ sum_of a.failed b.failed
      → Some (record { runs = runs; blocks = blocks; commands = commands; failed = failed }) ≡ summed a b
  unfolding plus
  all_summed {runs} {blocks} {commands} {failed} er ek ec ef =
      let r = by_some (runs_fit a.runs b.runs) _ runs er in
      let k = sum_some a.blocks b.blocks blocks ek in
      let c = sum_some a.commands b.commands commands ec in
      let f = sum_some a.failed b.failed failed ef in
      rw (sym (all_fit_is a b (sym k.0) (sym c.0) (sym f.0) (sym r.0)), r.1, k.1, c.1, f.1)

-- an addition
pub add_is : (s other : Sheet) → outcome s (ok_or (summed s other) TotalFull) ≡ add_of s other
unfolding add_of
add_is s other = by_test (all_fit s other) (λ e. rw e) (λ e. rw e)

-- ---- one of a row

or_assoc : (a b c : Bool) → (a || b) || c ≡ a || (b || c)
or_assoc true b c = refl
or_assoc false b c = refl

or_none : (a : Bool) → a ≡ a || false
or_none true = refl
or_none false = refl

or_on : (f : ℕ → Bool) (t : Bool) (xs : List ℕ) → or_from t (map f xs) ≡ t || list_any f xs
or_on f t [] = or_none t
or_on f t (x ∷ xs) = or_on f (t || f x) xs ∙ or_assoc t (f x) (list_any f xs)

-- a list of eight
pub eight_of : (xs : List ℕ) → length xs ≡ 8 → xs ≡ each_of (λ (i : ℕ). slice_index xs i)
eight_of (a ∷ b ∷ c ∷ d ∷ e ∷ f ∷ g ∷ h ∷ []) l = refl
eight_of (a ∷ b ∷ c ∷ d ∷ e ∷ f ∷ g ∷ h ∷ i ∷ xs) l = absurd (omega arith)
eight_of (a ∷ b ∷ c ∷ d ∷ e ∷ f ∷ g ∷ []) l = absurd (omega arith)
eight_of (a ∷ b ∷ c ∷ d ∷ e ∷ f ∷ []) l = absurd (omega arith)
eight_of (a ∷ b ∷ c ∷ d ∷ e ∷ []) l = absurd (omega arith)
eight_of (a ∷ b ∷ c ∷ d ∷ []) l = absurd (omega arith)
eight_of (a ∷ b ∷ c ∷ []) l = absurd (omega arith)
eight_of (a ∷ b ∷ []) l = absurd (omega arith)
eight_of (a ∷ []) l = absurd (omega arith)
eight_of [] l = absurd (omega arith)

-- some run is counted
pub any_counted : (s : Sheet) → length s.runs ≡ 8 → list_any (leb 1) s.runs ≡ any_run s
any_counted s l = ap (list_any (leb 1)) (eight_of s.runs l) ∙ sym (or_on (leb 1) false (each_of (λ (i : ℕ). slice_index s.runs i)))
