-- Document 02, Q-12: what a collection that has ended is to the month's sheet. Every ending that a collection has can be entered, no other number can, and
-- no such run is refused with 13. The sheet's entries give the answers that the paper has for them.
-- Assumes nothing.
use Rattle.std.specs.Prelude.{ℕ, ◌-◌, ◌≡◌, refl, [], ◌∷◌, Bool, true, false, ◌||◌, eqb, None}
use Rattle.std.proofs.Common.{sym, eqb-true}
use Rattle.choices.specs.Choice.{pick, pick_cases}
use Rattle.choices.specs.Tests.{or_cases}
use Rattle.answers.specs.Answers.{success, bad_header, no_room, attempts_used_up, withdrawn, nothing, broke_its_word, bad_setup, total_full}
use Rattle.plans.specs.Plans.{area_last}
use Rattle.endings.specs.declared.Ending.{Ending}
use Rattle.endings.specs.declared.Ending.TheVariants.{Success, BadHeader, OutOfReach, NoRoom, UsedUp, Withdrawn, Nothing, BrokeItsWord}
use Rattle.endings.specs.Endings.{number_of}
use Rattle.collection.specs.declared.Collection.{Collection}
use Rattle.sheets.specs.declared.Sheet.{Sheet}
use Rattle.sheets.specs.Sheets.{Entered, all_fit, add_of}
use Rattle.entries.specs.declared.Run.{Run}
use Rattle.entries.specs.Entries.{single, is_ending, is_run, enter_of}
use Rattle.demands.specs.Answers.{among}

-- a collection that has ended so, with this state left, as a run of the sheet: the blocks of the wanted area with 0 and none else; the attempts before its last one,
-- and with 9 all of them
abbrev pub finished_run : Collection → Ending → Run
finished_run s e = record {
  ending = number_of e;
  blocks = pick (eqb (number_of e) success) (area_last s.plan s.attempt.last) 0;
  commands = s.count;
  failed = pick (eqb (number_of e) attempts_used_up) s.attempt.number (s.attempt.number - 1);
}

-- every ending can be entered
pub ending_entered : (e : Ending) → is_ending (number_of e) ≡ true
ending_entered (Success unread) = refl
ending_entered (BadHeader fault) = refl
ending_entered OutOfReach = refl
ending_entered NoRoom = refl
ending_entered UsedUp = refl
ending_entered Withdrawn = refl
ending_entered Nothing = refl
ending_entered BrokeItsWord = refl

-- and what can be entered is one
pub entered_ending : {A : Type 0} (n : ℕ) → is_ending n ≡ true → ((e : Ending) → number_of e ≡ n → A) → A
entered_ending {A = A} n h f =
    either (eqb n success || eqb n bad_header || eqb n no_room || eqb n attempts_used_up || eqb n withdrawn || eqb n nothing || eqb n broke_its_word) OutOfReach h
    (λ h7. either (eqb n success || eqb n bad_header || eqb n no_room || eqb n attempts_used_up || eqb n withdrawn || eqb n nothing) BrokeItsWord h7
    (λ h6. either (eqb n success || eqb n bad_header || eqb n no_room || eqb n attempts_used_up || eqb n withdrawn) Nothing h6
    (λ h5. either (eqb n success || eqb n bad_header || eqb n no_room || eqb n attempts_used_up) Withdrawn h5
    (λ h4. either (eqb n success || eqb n bad_header || eqb n no_room) UsedUp h4
    (λ h3. either (eqb n success || eqb n bad_header) NoRoom h3
    (λ h2. either (eqb n success) (BadHeader None) h2
    (λ h1. f (Success false) (sym (eqb-true n success h1)))))))))
  where
    either : (t : Bool) (e : Ending) → t || eqb n (number_of e) ≡ true → (t ≡ true → A) → A
    either t e h g = or_cases t (eqb n (number_of e)) h g (λ p. f e (sym (eqb-true n (number_of e) p)))

-- such a run never gets 13
pub finished_taken : (s : Collection) (e : Ending) → is_run (finished_run s e) ≡ true
unfolding is_run
finished_taken s (Success unread) = refl
finished_taken s (BadHeader fault) = refl
finished_taken s OutOfReach = refl
finished_taken s NoRoom = refl
finished_taken s UsedUp = refl
finished_taken s Withdrawn = refl
finished_taken s Nothing = refl
finished_taken s BrokeItsWord = refl

-- ---- the answers that are given

pub enter_gives : (s : Sheet) (r : Run) → among (success ∷ bad_setup ∷ total_full ∷ []) (enter_of s r).answer ≡ true
unfolding enter_of add_of
enter_gives s r =
    pick_cases (λ (x : Entered). among (success ∷ bad_setup ∷ total_full ∷ []) x.answer ≡ true) (is_run r)
    (λ e. pick_cases (λ (x : Entered). among (success ∷ bad_setup ∷ total_full ∷ []) x.answer ≡ true) (all_fit s (single r)) (λ f. refl) (λ f. refl))
    (λ e. refl)

pub add_gives : (s other : Sheet) → among (success ∷ total_full ∷ []) (add_of s other).answer ≡ true
unfolding add_of
add_gives s other = pick_cases (λ (x : Entered). among (success ∷ total_full ∷ []) x.answer ≡ true) (all_fit s other) (λ e. refl) (λ e. refl)
