-- A sheet that is possible is the sheet of some runs, and whatever runs are entered leave a possible one: so `possible` is neither too wide nor too
-- narrow. That a sheet has its eight numbers of runs is said as: nothing added is nothing changed.
-- Assumes nothing.
use Rattle.std.specs.Prelude.{ℕ, zero, suc, ◌+◌, ◌≡◌, refl, List, [], ◌∷◌, ◌++◌, Bool, true, false, ◌&&◌, ◌||◌, get_or, leb, eqb}
use Rattle.std.proofs.Common.{sym, subst, ◌∙◌, arith, leb-true, eqb-true}
use Rattle.choices.specs.Choice.{pick, one}
use Rattle.choices.specs.Tests.{and_left, and_right, or_cases}
use Rattle.answers.specs.Answers.{success, bad_header, no_room, attempts_used_up, withdrawn, nothing, broke_its_word, out_of_reach}
use Rattle.sheets.specs.declared.Sheet.{Sheet}
use Rattle.sheets.specs.Sheets.{blank, plus, all_fit, any_run, possible}
use Rattle.sheets.specs.Sums.{is_fit, fit_turned}
use Rattle.sheets.specs.Laws.{blank_fit}
use Rattle.sheets.specs.Possible.{and_both, runs_in, kept, sent, possible_is, plus_possible, blank_possible}
use Rattle.entries.specs.declared.Run.{Run}
use Rattle.entries.specs.Entries.{single, is_ending, is_run, enter_of}
use Rattle.entries.specs.Laws.{entry, after, enter_all, NoneRefused, sum_of, totals_of, AllRuns, none_refused, exact_totals}

-- ---- what is entered

counted : (t : Bool) → leb 1 (one t) ≡ t
counted true = refl
counted false = refl

-- the sheet of a run that can be
pub single_possible : (r : Run) → is_run r ≡ true → possible (single r) ≡ true
unfolding is_run possible
single_possible r e =
    let own = eqb r.ending success || eqb r.blocks 0 in
    let ended = and_left (is_ending r.ending) own e in
    let only-good = and_right (is_ending r.ending) own e in
    and_both (kept (single r)) (any_run (single r) || eqb r.commands 0 && eqb r.failed 0) (rw (counted (eqb r.ending success)) only-good) (rw (any r, ended))
  where
    any : (r : Run) → any_run (single r) ≡ is_ending r.ending
    any r =
        rw (
          counted (eqb r.ending 0),
          counted (eqb r.ending 7),
          counted (eqb r.ending 8),
          counted (eqb r.ending 9),
          counted (eqb r.ending 10),
          counted (eqb r.ending 11),
          counted (eqb r.ending 12),
          counted (eqb r.ending 19),
        )

-- an entry onto a possible sheet leaves one
pub enter_possible : (s : Sheet) (r : Run) → possible s ≡ true → possible (enter_of s r).sheet ≡ true
enter_possible s r p =
    entry s r
    (λ t. subst (λ (x : Sheet). possible x ≡ true) (sym (after s r t)) (plus_possible s (single r) p (single_possible r t.can)))
    (λ e n. subst (λ (x : Sheet). possible x ≡ true) (sym e) p)

-- and so whatever is entered
pub reached_possible : (s : Sheet) (rs : List Run) → possible s ≡ true → possible (enter_all s rs) ≡ true
reached_possible s [] p = p
reached_possible s (r ∷ rs) p = reached_possible (enter_of s r).sheet rs (enter_possible s r p)

-- also into a new one
pub had_possible : (rs : List Run) → possible (enter_all blank rs) ≡ true
had_possible rs = reached_possible blank rs blank_possible

-- ---- runs for a sheet

-- runs with this ending and nothing else
abbrev many : ℕ → ℕ → List Run
many e zero = []
many e (suc n) = record { ending = e; blocks = 0; commands = 0; failed = 0 } ∷ many e n

-- of each ending so many
abbrev spread : List (ℕ × ℕ) → List Run
spread [] = []
spread (p ∷ ps) = many p.0 p.1 ++ spread ps

-- the same, the first run having all the blocks, commands and failed attempts
abbrev loaded : ℕ → ℕ → ℕ → List (ℕ × ℕ) → List Run
loaded b c f [] = []
loaded b c f ((e, zero) ∷ ps) = loaded b c f ps
loaded b c f ((e, suc n) ∷ ps) = record { ending = e; blocks = b; commands = c; failed = f } ∷ (many e n ++ spread ps)

-- ---- how many have an ending

abbrev counts : ℕ → Run → ℕ
counts x r = one (eqb r.ending x)

abbrev tally : ℕ → List (ℕ × ℕ) → ℕ
tally x [] = 0
tally x (p ∷ ps) = pick (eqb p.0 x) p.1 0 + tally x ps

sum_both : (g : Run → ℕ) (qs rs : List Run) → sum_of g (qs ++ rs) ≡ sum_of g qs + sum_of g rs
sum_both g [] rs = omega arith
sum_both g (q ∷ qs) rs = let h = sum_both g qs rs in omega arith

one_more : (t : Bool) (n m : ℕ) → m ≡ pick t n 0 → one t + m ≡ pick t (suc n) 0
one_more true n m e = omega arith
one_more false n m e = omega arith

count_many : (x e n : ℕ) → sum_of (counts x) (many e n) ≡ pick (eqb e x) n 0
count_many x e zero = none (eqb e x)
  where
    none : (t : Bool) → ◌≡◌ {A = ℕ} 0 (pick t 0 0)
    none true = refl
    none false = refl
count_many x e (suc n) = one_more (eqb e x) n (sum_of (counts x) (many e n)) (count_many x e n)

count_spread : (x : ℕ) (ps : List (ℕ × ℕ)) → sum_of (counts x) (spread ps) ≡ tally x ps
count_spread x [] = refl
count_spread x (p ∷ ps) =
    let a = sum_both (counts x) (many p.0 p.1) (spread ps) in
    let m = count_many x p.0 p.1 in
    let r = count_spread x ps in
    omega arith

count_loaded : (x b c f : ℕ) (ps : List (ℕ × ℕ)) → sum_of (counts x) (loaded b c f ps) ≡ tally x ps
count_loaded x b c f [] = refl
count_loaded x b c f ((e, zero) ∷ ps) = let h = count_loaded x b c f ps in let n = count_many x e zero in omega arith
count_loaded x b c f ((e, suc n) ∷ ps) =
    let a = sum_both (counts x) (many e n) (spread ps) in
    let m = one_more (eqb e x) n (sum_of (counts x) (many e n)) (count_many x e n) in
    let r = count_spread x ps in
    omega arith

-- ---- what they have besides

-- a number that runs with nothing else do not have
abbrev Absent : (Run → ℕ) → Type 0
Absent g = (e : ℕ) → g (record { ending = e; blocks = 0; commands = 0; failed = 0 }) ≡ 0

none_many : (g : Run → ℕ) → Absent g → (e n : ℕ) → sum_of g (many e n) ≡ 0
none_many g z e zero = refl
none_many g z e (suc n) = let h = none_many g z e n in let k = z e in omega arith

none_spread : (g : Run → ℕ) → Absent g → (ps : List (ℕ × ℕ)) → sum_of g (spread ps) ≡ 0
none_spread g z [] = refl
none_spread g z (p ∷ ps) =
    let a = sum_both g (many p.0 p.1) (spread ps) in
    let m = none_many g z p.0 p.1 in
    let r = none_spread g z ps in
    omega arith

-- how many runs there are
abbrev many_of : List (ℕ × ℕ) → ℕ
many_of [] = 0
many_of (p ∷ ps) = p.1 + many_of ps

-- the first run has it all, if there is one
has_loaded : (g : Run → ℕ) → Absent g → (b c f v : ℕ) → ((e : ℕ) → g (record { ending = e; blocks = b; commands = c; failed = f }) ≡ v) → (ps : List (ℕ × ℕ))
    → (many_of ps ≡ 0 → v ≡ 0) → sum_of g (loaded b c f ps) ≡ v
has_loaded g z b c f v k [] n = sym (n refl)
has_loaded g z b c f v k ((e, zero) ∷ ps) n = has_loaded g z b c f v k ps (λ h. n (omega arith))
has_loaded g z b c f v k ((e, suc m) ∷ ps) n =
    let a = sum_both g (many e m) (spread ps) in
    let x = none_many g z e m in
    let y = none_spread g z ps in
    let w = k e in
    omega arith

-- ---- they can be

-- endings that runs have
abbrev Endings : List (ℕ × ℕ) → Type 0
Endings [] = Unit {0}
Endings (p ∷ ps) = (is_ending p.0 ≡ true) × Endings ps

can_be : (e c f : ℕ) → is_ending e ≡ true → is_run (record { ending = e; blocks = 0; commands = c; failed = f }) ≡ true
unfolding is_run
can_be e c f h = rw h (right (eqb e success))
  where
    right : (t : Bool) → t || true ≡ true
    right true = refl
    right false = refl

all_many : (e n : ℕ) (rs : List Run) → is_ending e ≡ true → AllRuns rs → AllRuns (many e n ++ rs)
all_many e zero rs h a = a
all_many e (suc n) rs h a = (can_be e 0 0 h, all_many e n rs h a)

all_spread : (ps : List (ℕ × ℕ)) → Endings ps → AllRuns (spread ps)
all_spread [] h = tt
all_spread (p ∷ ps) h = all_many p.0 p.1 (spread ps) h.0 (all_spread ps h.1)

all_loaded : (c f : ℕ) (ps : List (ℕ × ℕ)) → Endings ps → AllRuns (loaded 0 c f ps)
all_loaded c f [] h = tt
all_loaded c f ((e, zero) ∷ ps) h = all_loaded c f ps h.1
all_loaded c f ((e, suc n) ∷ ps) h = (can_be e c f h.0, all_many e n (spread ps) h.0 (all_spread ps h.1))

good_is : (b c f : ℕ) → is_run (record { ending = success; blocks = b; commands = c; failed = f }) ≡ true
unfolding is_run
good_is b c f = refl

-- a good run may have blocks
good_loaded : (b c f n : ℕ) (ps : List (ℕ × ℕ)) → Endings ps → (n ≡ 0 → b ≡ 0) → AllRuns (loaded b c f ((success, n) ∷ ps))
good_loaded b c f zero ps h z = subst (λ (k : ℕ). AllRuns (loaded k c f ps)) (sym (z refl)) (all_loaded c f ps h)
good_loaded b c f (suc n) ps h z = (good_is b c f, all_many success n (spread ps) refl (all_spread ps h))

-- ---- the sheet

-- the endings of a sheet but the first, with how many runs have them
abbrev others : Sheet → List (ℕ × ℕ)
others s =
    (bad_header, get_or s.runs 1 0)
    ∷ (no_room, get_or s.runs 2 0)
    ∷ (attempts_used_up, get_or s.runs 3 0)
    ∷ (withdrawn, get_or s.runs 4 0)
    ∷ (nothing, get_or s.runs 5 0)
    ∷ (broke_its_word, get_or s.runs 6 0)
    ∷ (out_of_reach, get_or s.runs 7 0)
    ∷ []

-- runs that have this sheet
abbrev pub runs_for : Sheet → List Run
runs_for s = loaded s.blocks s.commands s.failed ((success, get_or s.runs 0 0) ∷ others s)

only_with : (n m : ℕ) → leb 1 n || eqb m 0 ≡ true → n ≡ 0 → m ≡ 0
only_with n m e z = or_cases (leb 1 n) (eqb m 0) e (λ p. let h = leb-true 1 n p in absurd (omega arith)) (λ p. eqb-true m 0 p)

-- a sheet, number by number
made_of : (s : Sheet) {n0 n1 n2 n3 n4 n5 n6 n7 blocks commands failed : ℕ}
    → n0 ≡ get_or s.runs 0 0 + 0 → n1 ≡ get_or s.runs 1 0 + 0 → n2 ≡ get_or s.runs 2 0 + 0 → n3 ≡ get_or s.runs 3 0 + 0
    → n4 ≡ get_or s.runs 4 0 + 0 → n5 ≡ get_or s.runs 5 0 + 0 → n6 ≡ get_or s.runs 6 0 + 0 → n7 ≡ get_or s.runs 7 0 + 0
    → blocks ≡ s.blocks + 0 → commands ≡ s.commands + 0 → failed ≡ s.failed + 0
    → record { runs = n0 ∷ n1 ∷ n2 ∷ n3 ∷ n4 ∷ n5 ∷ n6 ∷ n7 ∷ []; blocks = blocks; commands = commands; failed = failed } ≡ plus s blank
unfolding plus
made_of s e0 e1 e2 e3 e4 e5 e6 e7 k c f = rw (e0, e1, e2, e3, e4, e5, e6, e7, k, c, f)

-- **Every possible sheet is had**, by runs that can be
pub reached : (s : Sheet) → plus s blank ≡ s → possible s ≡ true → AllRuns (runs_for s) × (totals_of (runs_for s) ≡ s)
reached s w p =
    let q = sym (possible_is s) ∙ p in
    let k = only_with (get_or s.runs 0 0) s.blocks (and_left (kept s) (sent s) q) in
    let m = only_with (runs_in s) (s.commands + s.failed) (and_right (kept s) (sent s) q) in (
      good_loaded s.blocks s.commands s.failed (get_or s.runs 0 0) (others s) (refl, (refl, (refl, (refl, (refl, (refl, (refl, tt))))))) k,
      made_of s (count success (omega arith)) (count bad_header (omega arith)) (count no_room (omega arith)) (count attempts_used_up (omega arith))
          (count withdrawn (omega arith)) (count nothing (omega arith)) (count broke_its_word (omega arith)) (count out_of_reach (omega arith))
          (has_loaded (λ r. r.blocks) (λ e. refl) s.blocks s.commands s.failed s.blocks (λ e. refl) all (λ h. k (omega arith)) ∙ omega arith)
          (has_loaded (λ r. r.commands) (λ e. refl) s.blocks s.commands s.failed s.commands (λ e. refl) all (λ h. let z = m (omega arith) in omega arith) ∙ omega arith)
          (has_loaded (λ r. r.failed) (λ e. refl) s.blocks s.commands s.failed s.failed (λ e. refl) all (λ h. let z = m (omega arith) in omega arith) ∙ omega arith)
          ∙ w,
    )
  where
    all : List (ℕ × ℕ)
    all = (success, get_or s.runs 0 0) ∷ others s

    count : (x : ℕ) {n : ℕ} → tally x all ≡ n → sum_of (counts x) (runs_for s) ≡ n
    count x e = count_loaded x s.blocks s.commands s.failed all ∙ e

-- and, where its totals are totals, by entering them
pub entered_reached : (s : Sheet) → plus s blank ≡ s → is_fit s ≡ true → possible s ≡ true → NoneRefused blank (runs_for s) × (enter_all blank (runs_for s) ≡ s)
entered_reached s w i p =
    let r = reached s w p in
    let f : all_fit blank s ≡ true = fit_turned s i in
    let n = none_refused blank (runs_for s) r.0 blank_fit (subst (λ (x : Sheet). all_fit blank x ≡ true) (sym r.1) f) in
    (n, exact_totals (runs_for s) n ∙ r.1)
