-- What the code's calls come to: the place of an ending, the sheet of a run, and the two ways of an entry.
-- Assumes nothing.
use Rattle.std.specs.Prelude.{◌≡◌, ℕ, Bool, true, false, ◌||◌, ◌&&◌, Option, Some, None, is_some, Result, Ok, Err, is_ok, eqb, position, map, replicate, refl}
use Rattle.std.specs.Option.{unwrap_or, ok_or}
use Rattle.std.proofs.Common.{sym, ap, subst, ◌∙◌, set, arith, ne_eqb}
use Rattle.choices.specs.Choice.{pick, one}
use Rattle.choices.specs.Tests.{clash, by_test, same_or_not}
use Rattle.answers.specs.Answers.{success, bad_header, no_room, attempts_used_up, withdrawn, nothing, broke_its_word, out_of_reach, bad_setup}
use Rattle.answers.specs.declared.Refusal.{Refusal}
use Rattle.answers.specs.declared.Refusal.TheVariants.{BadSetup}
use Rattle.sheets.specs.declared.Sheet.{Sheet}
use Rattle.sheets.specs.Sheets.{Entered, endings, answered, outcome, add_of}
use Rattle.sheets.specs.Steps.{said}
use Rattle.entries.specs.declared.Run.{Run}
use Rattle.entries.specs.Entries.{single, is_ending, is_run, enter_of}

-- the place of an ending among those that a run has, if it is one
abbrev pub place_among : ℕ → Option ℕ
place_among n = position (λ (e : ℕ). eqb e n) endings

-- blocks with 0 alone
abbrev owns : Run → Bool
owns r = eqb r.ending success || eqb r.blocks 0

-- where a run is counted, if it can be
abbrev pub place_of : Run → Option ℕ
place_of r = pick (owns r) (place_among r.ending) None

-- the sheet of one run, or 13 for a run that cannot be
abbrev pub alone : Run → Result Sheet Refusal
alone r = pick (is_run r) (Ok (single r)) (Err BadSetup)

pub entered : (s : Sheet) (r : Run) {own : Sheet} {t : Bool} {x : Entered} → t ≡ is_run r → t ≡ true → own ≡ single r → x ≡ add_of s own → x ≡ enter_of s r
unfolding enter_of
entered s r e p f g = rw (← e, p) (g ∙ ap (λ (y : Sheet). add_of s y) f)

pub refused : (s : Sheet) (r : Run) {t : Bool} {x : Entered} → t ≡ is_run r → t ≡ false → x ≡ answered bad_setup s → x ≡ enter_of s r
unfolding enter_of
refused s r e p g = rw (← e, p) g

-- ---- the place of a run

pub none_picked : {A : Type 0} (t : Bool) (o : Option A) → None ≡ o → None ≡ pick t o None
none_picked true o e = e
none_picked false o e = refl

-- an ending with its place: it is counted there alone
record At (n k : ℕ) : Type 0 where
  pub ended : is_ending n ≡ true
  pub counted : set (replicate 8 0) k 1 ≡ map (λ (e : ℕ). one (eqb n e)) endings

-- an ending is one of the eight, or has no place
by_ending : {A : Type 0} (n : ℕ) → ((e k : ℕ) → n ≡ e → place_among e ≡ Some k → At e k → A) → (place_among n ≡ None → is_ending n ≡ false → A) → A
by_ending n f g =
    same_or_not n success (λ e. f success 0 e refl (record { ended = refl; counted = refl }))
    (λ n0. same_or_not n bad_header (λ e. f bad_header 1 e refl (record { ended = refl; counted = refl }))
    (λ n1. same_or_not n no_room (λ e. f no_room 2 e refl (record { ended = refl; counted = refl }))
    (λ n2. same_or_not n attempts_used_up (λ e. f attempts_used_up 3 e refl (record { ended = refl; counted = refl }))
    (λ n3. same_or_not n withdrawn (λ e. f withdrawn 4 e refl (record { ended = refl; counted = refl }))
    (λ n4. same_or_not n nothing (λ e. f nothing 5 e refl (record { ended = refl; counted = refl }))
    (λ n5. same_or_not n broke_its_word (λ e. f broke_its_word 6 e refl (record { ended = refl; counted = refl }))
    (λ n6. same_or_not n out_of_reach (λ e. f out_of_reach 7 e refl (record { ended = refl; counted = refl }))
    (λ n7. g
    (rw (other n0, other n1, other n2, other n3, other n4, other n5, other n6, other n7))
    (rw (ne_eqb n _ n0, ne_eqb n _ n1, ne_eqb n _ n2, ne_eqb n _ n3, ne_eqb n _ n4, ne_eqb n _ n5, ne_eqb n _ n6, ne_eqb n _ n7))))))))))
  where
    other : {e : ℕ} → (n ≡ e → ⊥) → eqb e n ≡ false
    other {e} d = ne_eqb e n (λ q. d (sym q))

some_none : {A B : Type 0} (x : B) → ◌≡◌ {A = Option B} (Some x) None → A
some_none x e = clash refl (ap is_some e)

-- the place that is found
place_found : (n k : ℕ) → Some k ≡ place_among n → At n k
place_found n k p =
    by_ending n
    (λ m j w q a. subst (λ (x : ℕ). At x k) (sym w) (subst (λ (x : ℕ). At m x) (sym (ap (λ (o : Option ℕ). unwrap_or o 0) (p ∙ ap place_among w ∙ q))) a))
    (λ q x. some_none k (p ∙ q))

no_place : (n : ℕ) → None ≡ place_among n → is_ending n ≡ false
no_place n p = by_ending n (λ m j w q a. some_none j (sym q ∙ sym (ap place_among w) ∙ sym p)) (λ q x. x)

pub said_none : {o : Option ℕ} {x : Refusal} → Err x ≡ ok_or o BadSetup → o ≡ None → x ≡ BadSetup
said_none {o} {x} e n = ap said (e ∙ ap (λ (p : Option ℕ). ok_or p BadSetup) n)

-- a run that has a place can be, and is counted there alone
pub counted_alone : (r : Run) (k : ℕ) → Some k ≡ place_of r
    → Ok (record { runs = set (replicate 8 0) k 1; blocks = r.blocks; commands = r.commands; failed = r.failed }) ≡ alone r
unfolding is_run
counted_alone r k =
    by_test (owns r)
    (λ t. rw t (λ p. let a = place_found r.ending k p in rw (a.ended, a.counted)))
    (λ t. rw t (λ p. some_none k p))

-- and so is one whose number is written in other words
pub one_counted : (r : Run) (k n : ℕ) → Some k ≡ place_of r → n ≡ 1
    → Ok (record { runs = set (replicate 8 0) k n; blocks = r.blocks; commands = r.commands; failed = r.failed }) ≡ alone r
one_counted r k n p e = rw e (counted_alone r k p)

-- any other cannot be
pub not_counted : (r : Run) → None ≡ place_of r → Err BadSetup ≡ alone r
unfolding is_run
not_counted r =
    by_test (owns r)
    (λ t. rw t (λ p. rw (no_place r.ending p)))
    (λ t. rw t (λ p. rw (and_none (is_ending r.ending))))
  where
    and_none : (a : Bool) → a && false ≡ false
    and_none true = refl
    and_none false = refl

-- what comes of an entry by the sheet of the run
pub entered_alone : (s : Sheet) (r : Run) (own : Sheet) → Ok own ≡ alone r → add_of s own ≡ enter_of s r
unfolding enter_of
entered_alone s r own =
    by_test (is_run r)
    (λ t. rw t (λ e. ap (λ (x : Result Sheet Refusal). add_of s (outcome s x).sheet) e))
    (λ t. rw t (λ e. let n = ap (λ (x : Result Sheet Refusal). (outcome s x).answer) e in absurd (omega arith)))

pub refused_alone : (s : Sheet) (r : Run) (x : Refusal) → Err x ≡ alone r → outcome s (Err x) ≡ enter_of s r
unfolding enter_of
refused_alone s r x =
    by_test (is_run r)
    (λ t. rw t (λ e. err_ok e))
    (λ t. rw t (λ e. ap (outcome s) e))
  where
    err_ok : {A : Type 0} → ◌≡◌ {A = Result Sheet Refusal} (Err x) (Ok (single r)) → A
    err_ok e = clash (ap is_ok e) refl
