-- What a sheet is worth: it is the exact totals of the runs that were taken, in any order where none is refused; two sheets added are the totals of the
-- runs taken on both; a refusal changes nothing.
-- Assumes nothing.
use Rattle.std.specs.Prelude.{ℕ, ◌+◌, ◌≡◌, refl, true, false, eqb}
use Rattle.std.proofs.Common.{sym, ap, subst, ◌∙◌, arith, eq-eqb, ne_eqb}
use mathlib.Core.List.{List, [], ◌∷◌, ◌++◌, map, Permᴰ}
use Rattle.choices.specs.Choice.{pick, one}
use Rattle.choices.specs.Tests.{by_test}
use Rattle.answers.specs.Answers.{success, bad_setup, total_full}
use Rattle.sheets.specs.declared.Sheet.{Sheet}
use Rattle.sheets.specs.Sheets.{Entered, endings, blank, plus, all_fit, answered, add_of}
use Rattle.sheets.specs.Sums.{plus_assoc, plus_swap, plus_none, none_plus, is_fit, fit_swap, fit_without, fit_both, fit_then, fit_first, fit_sum}
use Rattle.sheets.specs.Laws.{blank_fit, add_taken, add_fits}
use Rattle.entries.specs.declared.Run.{Run}
use Rattle.entries.specs.Entries.{single, is_run, enter_of}

-- ---- one entry

-- a run that is taken: it can be, and no total would pass the greatest
pub record Taken (s : Sheet) (r : Run) : Type 0 where
  pub can : is_run r ≡ true
  pub fit : all_fit s (single r) ≡ true

-- a run is taken, with the sums, or refused, with the sheet as it was
pub enter_taken : (s : Sheet) (r : Run) → Taken s r → enter_of s r ≡ answered success (plus s (single r))
unfolding enter_of add_of
enter_taken s r t = rw (t.can, t.fit)

-- 13 goes before 20: whatever the totals are
pub enter_13 : (s : Sheet) (r : Run) → is_run r ≡ false → enter_of s r ≡ answered bad_setup s
unfolding enter_of
enter_13 s r e = rw e

pub enter_20 : (s : Sheet) (r : Run) → is_run r ≡ true → all_fit s (single r) ≡ false → enter_of s r ≡ answered total_full s
unfolding enter_of add_of
enter_20 s r e f = rw (e, f)

pub entry : {A : Type 0} (s : Sheet) (r : Run) → (Taken s r → A) → ((enter_of s r).sheet ≡ s → ((enter_of s r).answer ≡ success → ⊥) → A) → A
entry {A = A} s r f g =
    by_test (is_run r)
    (λ p. by_test (all_fit s (single r)) (λ q. f (record { can = p; fit = q })) (λ q. refused total_full (enter_20 s r p q) (λ e. omega arith)))
    (λ p. refused bad_setup (enter_13 s r p) (λ e. omega arith))
  where
    refused : (answer : ℕ) → enter_of s r ≡ answered answer s → (answer ≡ success → ⊥) → A
    refused answer e n = g (ap (λ (x : Entered). x.sheet) e) (λ q. n (sym (ap (λ (x : Entered). x.answer) e) ∙ q))

-- an answer 0 tells that it was taken
pub taken : (s : Sheet) (r : Run) → (enter_of s r).answer ≡ success → Taken s r
taken s r e = entry s r (λ t. t) (λ q n. absurd (n e))

-- a refusal leaves the sheet as it was
pub enter_refusal : (s : Sheet) (r : Run) → ((enter_of s r).answer ≡ success → ⊥) → (enter_of s r).sheet ≡ s
enter_refusal s r n = entry s r (λ t. absurd (n (ap (λ (x : Entered). x.answer) (enter_taken s r t)))) (λ q m. q)

-- ---- many entries

-- the runs entered one after another
abbrev pub enter_all : Sheet → List Run → Sheet
enter_all s [] = s
enter_all s (r ∷ rs) = enter_all (enter_of s r).sheet rs

-- those of them that were taken
abbrev pub taken_of : Sheet → List Run → List Run
taken_of s [] = []
taken_of s (r ∷ rs) = pick (eqb (enter_of s r).answer success) (r ∷ taken_of (enter_of s r).sheet rs) (taken_of (enter_of s r).sheet rs)

-- none of them is refused
abbrev pub NoneRefused : Sheet → List Run → Type 0
NoneRefused s [] = Unit {0}
NoneRefused s (r ∷ rs) = ((enter_of s r).answer ≡ success) × NoneRefused (enter_of s r).sheet rs

-- a number of each run, added up
abbrev pub sum_of : (Run → ℕ) → List Run → ℕ
sum_of f [] = 0
sum_of f (r ∷ rs) = f r + sum_of f rs

-- the exact totals of runs: how many have each ending, and the sums of their blocks, commands and failed attempts
abbrev pub totals_of : List Run → Sheet
totals_of rs = record {
  runs = map (λ (e : ℕ). sum_of (λ (r : Run). one (eqb r.ending e)) rs) endings;
  blocks = sum_of (λ (r : Run). r.blocks) rs;
  commands = sum_of (λ (r : Run). r.commands) rs;
  failed = sum_of (λ (r : Run). r.failed) rs;
}

-- a run more in front
totals_more : (r : Run) (rs : List Run) → totals_of (r ∷ rs) ≡ plus (single r) (totals_of rs)
unfolding plus
totals_more r rs = refl

none_more : blank ≡ plus blank blank
unfolding plus
none_more = refl

none_before : (rs : List Run) → totals_of rs ≡ plus blank (totals_of rs)
none_before [] = none_more
none_before (r ∷ rs) = totals_more r rs ∙ sym (none_plus (single r) (totals_of rs)) ∙ ap (λ (x : Sheet). plus blank x) (sym (totals_more r rs))

-- the totals of some runs and of others
totals_both : (qs rs : List Run) → totals_of (qs ++ rs) ≡ plus (totals_of qs) (totals_of rs)
totals_both [] rs = none_before rs
totals_both (q ∷ qs) rs =
    totals_more q (qs ++ rs)
    ∙ ap (λ (x : Sheet). plus (single q) x) (totals_both qs rs)
    ∙ sym (plus_assoc (single q) (totals_of qs) (totals_of rs))
    ∙ ap (λ (x : Sheet). plus x (totals_of rs)) (sym (totals_more q qs))

-- the sheet after a run that is taken
pub after : (s : Sheet) (r : Run) → Taken s r → (enter_of s r).sheet ≡ plus s (single r)
after s r t = ap (λ (x : Entered). x.sheet) (enter_taken s r t)

zero_answer : (s : Sheet) (r : Run) → Taken s r → (enter_of s r).answer ≡ success
zero_answer s r t = ap (λ (x : Entered). x.answer) (enter_taken s r t)

-- onto any sheet that has its eight numbers of runs: nothing added is nothing changed
pub exactly_onto : (s : Sheet) (rs : List Run) → plus s blank ≡ s → enter_all s rs ≡ plus s (totals_of (taken_of s rs))
exactly_onto s [] w = sym w
exactly_onto s (r ∷ rs) w =
    entry s r
    (λ t.
    let e = after s r t in
    rw (eq-eqb (enter_of s r).answer success (zero_answer s r t))
    (exactly_onto (enter_of s r).sheet rs (subst (λ (x : Sheet). plus x blank ≡ x) (sym e) (plus_none s (single r)))
    ∙ ap (λ (x : Sheet). plus x (totals_of (taken_of (enter_of s r).sheet rs))) e
    ∙ plus_assoc s (single r) (totals_of (taken_of (enter_of s r).sheet rs))
    ∙ ap (λ (x : Sheet). plus s x) (sym (totals_more r (taken_of (enter_of s r).sheet rs)))))
    (λ e n.
    rw (ne_eqb (enter_of s r).answer success n)
    (exactly_onto (enter_of s r).sheet rs (subst (λ (x : Sheet). plus x blank ≡ x) (sym e) w)
    ∙ ap (λ (x : Sheet). plus x (totals_of (taken_of (enter_of s r).sheet rs))) e))

-- **Exact**: the sheet is the exact totals of the runs that were taken, whatever was entered
pub exactly : (rs : List Run) → enter_all blank rs ≡ totals_of (taken_of blank rs)
exactly rs = exactly_onto blank rs (sym none_more) ∙ sym (none_before (taken_of blank rs))

-- where none is refused, all are taken
pub all_taken : (s : Sheet) (rs : List Run) → NoneRefused s rs → taken_of s rs ≡ rs
all_taken s [] n = refl
all_taken s (r ∷ rs) n = rw (eq-eqb (enter_of s r).answer success n.0) (ap (λ (x : List Run). r ∷ x) (all_taken (enter_of s r).sheet rs n.1))

-- ---- the same runs in another order

-- two runs taken one after the other are taken the other way round, and leave the same sheet
taken_swap : (s : Sheet) (q r : Run) → Taken s q → Taken (plus s (single q)) r → Taken s r × Taken (plus s (single r)) q
taken_swap s q r t u = (
  record { can = u.can; fit = fit_without s (single q) (single r) u.fit },
  record { can = t.can; fit = fit_swap s (single q) (single r) u.fit },
)

two : (s : Sheet) (q r : Run) → Taken s q → Taken (plus s (single q)) r
    → ((enter_of (enter_of s q).sheet r).answer ≡ success) × ((enter_of (enter_of s q).sheet r).sheet ≡ plus (plus s (single q)) (single r))
two s q r t u = rw (after s q t) (zero_answer (plus s (single q)) r u, after (plus s (single q)) r u)

swapped : (s : Sheet) (q r : Run) (l : List Run) → NoneRefused s (q ∷ r ∷ l)
    → NoneRefused s (r ∷ q ∷ l) × (enter_all s (q ∷ r ∷ l) ≡ enter_all s (r ∷ q ∷ l))
swapped s q r l n =
    let t = taken s q n.0 in
    let u = subst (λ (x : Sheet). Taken x r) (after s q t) (taken (enter_of s q).sheet r n.1.0) in
    let back = taken_swap s q r t u in
    let one_way = two s q r t u in
    let other_way = two s r q back.0 back.1 in
    let same = one_way.1 ∙ plus_swap s (single q) (single r) ∙ sym other_way.1 in
    ((zero_answer s r back.0, (other_way.0, subst (λ (x : Sheet). NoneRefused x l) same n.1.1)), ap (λ (x : Sheet). enter_all x l) same)

-- **In any order**: where no entry is refused, the same runs in another order are not refused either and leave the same sheet
pub in_any_order : (s : Sheet) {qs rs : List Run} → Permᴰ qs rs → NoneRefused s qs → NoneRefused s rs × (enter_all s qs ≡ enter_all s rs)
in_any_order s Permᴰ.nil n = (n, refl)
in_any_order s (Permᴰ.cons {a = q} {b = r} {l₁ = qs} {l₂ = rs} e d) n =
    let rest = in_any_order (enter_of s q).sheet d n.1 in
    subst (λ (x : Run). NoneRefused s (x ∷ rs) × (enter_all s (q ∷ qs) ≡ enter_all s (x ∷ rs))) e ((n.0, rest.0), rest.1)
in_any_order s (Permᴰ.swap {a = q} {b = r} {a' = r'} {b' = q'} {l = l} e f) n =
    subst (λ (x : Run). NoneRefused s (r' ∷ x ∷ l) × (enter_all s (q ∷ r ∷ l) ≡ enter_all s (r' ∷ x ∷ l))) e
    (subst (λ (x : Run). NoneRefused s (x ∷ q ∷ l) × (enter_all s (q ∷ r ∷ l) ≡ enter_all s (x ∷ q ∷ l))) f (swapped s q r l n))
in_any_order s (Permᴰ.trans d₁ d₂) n =
    let first = in_any_order s d₁ n in let second = in_any_order s d₂ first.0 in (second.0, first.1 ∙ second.1)

-- ---- the sheets of two benches

-- every run of the list can be one
abbrev pub AllRuns : List Run → Type 0
AllRuns [] = Unit {0}
AllRuns (r ∷ rs) = (is_run r ≡ true) × AllRuns rs

-- none is refused exactly where all of them can be and no total passes the greatest in the end
pub none_refused : (s : Sheet) (rs : List Run) → AllRuns rs → is_fit s ≡ true → all_fit s (totals_of rs) ≡ true → NoneRefused s rs
none_refused s [] a i f = tt
none_refused s (r ∷ rs) a i f =
    let g = subst (λ (x : Sheet). all_fit s x ≡ true) (totals_more r rs) f in
    let t : Taken s r = record { can = a.0; fit = fit_first s (single r) (totals_of rs) g } in
    let e = sym (after s r t) in (
      zero_answer s r t,
      none_refused (enter_of s r).sheet rs a.1 (subst (λ (x : Sheet). is_fit x ≡ true) e (fit_sum s (single r) t.fit))
          (subst (λ (x : Sheet). all_fit x (totals_of rs) ≡ true) e (fit_then s (single r) (totals_of rs) g)),
    )

pub none_refused_fits : (s : Sheet) (rs : List Run) → is_fit s ≡ true → NoneRefused s rs → AllRuns rs × (all_fit s (totals_of rs) ≡ true)
none_refused_fits s [] i n = (tt, i)
none_refused_fits s (r ∷ rs) i n =
    let t = taken s r n.0 in
    let e = after s r t in
    let rest = none_refused_fits (enter_of s r).sheet rs (subst (λ (x : Sheet). is_fit x ≡ true) (sym e) (fit_sum s (single r) t.fit)) n.1 in
    let g = fit_both s (single r) (totals_of rs) (subst (λ (x : Sheet). all_fit x (totals_of rs) ≡ true) e rest.1) in
    ((t.can, rest.0), subst (λ (x : Sheet). all_fit s x ≡ true) (sym (totals_more r rs)) g)

pub exact_totals : (rs : List Run) → NoneRefused blank rs → enter_all blank rs ≡ totals_of rs
exact_totals rs n = exactly rs ∙ ap totals_of (all_taken blank rs n)

part_runs : (qs rs : List Run) → AllRuns (qs ++ rs) → AllRuns qs × AllRuns rs
part_runs [] rs a = (tt, a)
part_runs (q ∷ qs) rs a = let rest = part_runs qs rs a.1 in ((a.0, rest.0), rest.1)

join_runs : (qs rs : List Run) → AllRuns qs → AllRuns rs → AllRuns (qs ++ rs)
join_runs [] rs a b = b
join_runs (q ∷ qs) rs a b = (a.0, join_runs qs rs a.1 b)

-- two sheets fit exactly where all their runs do
fit_joined : (qs rs : List Run) → all_fit blank (totals_of (qs ++ rs)) ≡ true → all_fit (totals_of qs) (totals_of rs) ≡ true
fit_joined qs rs f =
    subst (λ (x : Sheet). all_fit x (totals_of rs) ≡ true) (sym (none_before qs))
    (fit_then blank (totals_of qs) (totals_of rs) (subst (λ (x : Sheet). all_fit blank x ≡ true) (totals_both qs rs) f))

joined_fit : (qs rs : List Run) → all_fit (totals_of qs) (totals_of rs) ≡ true → all_fit blank (totals_of (qs ++ rs)) ≡ true
joined_fit qs rs f =
    subst (λ (x : Sheet). all_fit blank x ≡ true) (sym (totals_both qs rs))
    (fit_both blank (totals_of qs) (totals_of rs) (subst (λ (x : Sheet). all_fit x (totals_of rs) ≡ true) (none_before qs) f))

-- where none of all those runs is refused on one sheet, none is on the sheet of either list
parts_taken : (qs rs : List Run) → NoneRefused blank (qs ++ rs) → NoneRefused blank qs × NoneRefused blank rs
parts_taken qs rs o =
    let all = none_refused_fits blank (qs ++ rs) blank_fit o in
    let f = subst (λ (x : Sheet). all_fit blank x ≡ true) (totals_both qs rs) all.1 in
    let runs = part_runs qs rs all.0 in (
      none_refused blank qs runs.0 blank_fit (fit_first blank (totals_of qs) (totals_of rs) f),
      none_refused blank rs runs.1 blank_fit (fit_without blank (totals_of qs) (totals_of rs) (fit_then blank (totals_of qs) (totals_of rs) f)),
    )

-- **One month of many benches**: where none of the runs of both lists would be refused on one sheet, the two sheets added are that sheet
pub both_sheets : (qs rs : List Run) → NoneRefused blank (qs ++ rs)
    → add_of (enter_all blank qs) (enter_all blank rs) ≡ answered success (enter_all blank (qs ++ rs))
both_sheets qs rs o =
    let parts = parts_taken qs rs o in
    rw (exact_totals qs parts.0, exact_totals rs parts.1, exact_totals (qs ++ rs) o)
    (add_taken (totals_of qs) (totals_of rs) (fit_joined qs rs (none_refused_fits blank (qs ++ rs) blank_fit o).1)
    ∙ ap (λ (x : Sheet). answered success x) (sym (totals_both qs rs)))

-- and where none is refused on either and they are added with 0, none would be refused on one sheet
pub both_taken : (qs rs : List Run) → NoneRefused blank qs → NoneRefused blank rs → (add_of (enter_all blank qs) (enter_all blank rs)).answer ≡ success
    → NoneRefused blank (qs ++ rs)
both_taken qs rs m n e =
    let f : (add_of (totals_of qs) (totals_of rs)).answer ≡ success = rw (← exact_totals qs m, ← exact_totals rs n) e in
    none_refused blank (qs ++ rs) (join_runs qs rs (none_refused_fits blank qs blank_fit m).0 (none_refused_fits blank rs blank_fit n).0) blank_fit
    (joined_fit qs rs (add_fits (totals_of qs) (totals_of rs) f))

-- **Whatever was refused**: two sheets added with 0 are the exact totals of the runs that were taken on both
pub added_exactly : (qs rs : List Run) → (add_of (enter_all blank qs) (enter_all blank rs)).answer ≡ success
    → (add_of (enter_all blank qs) (enter_all blank rs)).sheet ≡ totals_of (taken_of blank qs ++ taken_of blank rs)
added_exactly qs rs e =
    let f = add_fits (enter_all blank qs) (enter_all blank rs) e in
    ap (λ (x : Entered). x.sheet) (add_taken (enter_all blank qs) (enter_all blank rs) f)
    ∙ ap (λ (x : Sheet). plus x (enter_all blank rs)) (exactly qs)
    ∙ ap (λ (x : Sheet). plus (totals_of (taken_of blank qs)) x) (exactly rs)
    ∙ sym (totals_both (taken_of blank qs) (taken_of blank rs))
