-- What a valid state keeps, what a completion that is not refused fits, and which moves it can call for.
-- Assumes nothing.
use Rattle.std.specs.Prelude.{ℕ, ◌≤◌, ◌<◌, ◌≡◌, List, Bool, not, ◌&&◌, length, leb, Option, None}
use Rattle.std.proofs.Math.Path.{refl, ap}
use Rattle.std.proofs.Common.{sym, ◌∙◌, arith}
use Rattle.std.proofs.Math.Bool.{true, false}
use Rattle.std.proofs.Math.Dec.{eqb}
use borrow.Author.Tests.{leb-true, leb-false, eqb-true, eqb-false, ne_eqb, not-true, not-false}
use Rattle.choices.specs.Choice.{pick, pick_cases}
use Rattle.choices.specs.Tests.{each, and_left, and_right, clash}
use Rattle.answers.specs.Answers.{success, bad_header, no_room, nothing, out_of_reach}
use Rattle.pages.specs.Pages.{controller_page}
use Rattle.header.specs.declared.Fault.{Fault}
use Rattle.header.specs.Header.{faultless}
use Rattle.phases.specs.declared.Phase.{Phase}
use Rattle.phases.specs.declared.Phase.TheVariants.{First, Chunk, Close, Ack, Ended}
use Rattle.phases.specs.Phases.{judged_by, closing_by, ended_by}
use Rattle.plans.specs.Plans.{setup_answer, area_answer, fits}
use Rattle.phases.specs.Asked.{inside_by, within_by}
use Rattle.plans.specs.Limits.{plan_limits, unopposed_fits}
use Rattle.completions.specs.declared.Seen.{Seen}
use Rattle.completions.specs.Completions.{shows_none}
use Rattle.completions.specs.Looked.{TakenByPlan, Opens}
use Rattle.endings.specs.declared.Ending.{Ending}
use Rattle.endings.specs.declared.Ending.TheVariants.{Success, BadHeader, OutOfReach, NoRoom, UsedUp, Withdrawn, Nothing, BrokeItsWord}
use Rattle.judgement.specs.declared.Move.{Move}
use Rattle.judgement.specs.declared.Move.TheVariants.{End, Open, More, Skip, Acknowledge}
use Rattle.endings.specs.Endings.{number_of, fault_in}
use Rattle.judgement.specs.Judgement.{matches, newer_than, tests_of, first_order, match_order, later_order, judge_by}
use Rattle.turns.specs.Turns.{good}
use Rattle.collection.specs.declared.Collection.{Collection}
use Rattle.collection.specs.Told.{Decided}
use Rattle.refusals.specs.Refusals.{most_count, first_refusal, refusal_by}
use Rattle.touches.specs.Touched.{touched}
use Rattle.collection.specs.Collection.{valid_state, completion_fits, expected_of, look_of, refusal_of, move_of, made_of, refused_of, decide_of, copy_after, Bounded}

-- ---- a valid state

pub record Valid (s : Collection) : Type 0 where
  pub plan : setup_answer s.plan ≡ success
  pub attempt_low : 1 ≤ s.attempt.number
  pub attempt_high : s.attempt.number ≤ s.plan.attempts
  pub count : s.count ≤ most_count s.plan.attempts
  pub area : fits s.plan s.attempt.last ≡ true
  pub inside : inside_by s.phase s.plan s.attempt.last ≡ true

pub state_valid : (s : Collection) → valid_state s ≡ true → Valid s
unfolding valid_state within_by
state_valid s e = record {
  plan = eqb-true _ _ (each _ e 0);
  attempt_low = leb-true _ _ (and_left (leb 1 s.attempt.number) (leb s.attempt.number s.plan.attempts) (each _ e 1));
  attempt_high = leb-true _ _ (and_right (leb 1 s.attempt.number) (leb s.attempt.number s.plan.attempts) (each _ e 1));
  count = leb-true _ _ (each _ e 2);
  area = and_left (fits s.plan s.attempt.last) (inside_by s.phase s.plan s.attempt.last) (each _ e 3);
  inside = and_right (fits s.plan s.attempt.last) (inside_by s.phase s.plan s.attempt.last) (each _ e 3);
}

pub valid_bounded : (s : Collection) → valid_state s ≡ true → Bounded s
valid_bounded s e =
    let k = state_valid s e in
    let l = plan_limits s.plan k.plan in
    record { attempt = omega arith; count = omega arith }

-- ---- a completion that is not refused

pub record Taken (s : Collection) (ok : Bool) (bytes copy : ℕ) : Type 0 where
  pub going : ended_by s.phase ≡ false
  pub state : valid_state s ≡ true
  pub copy_fits : copy ≡ s.plan.room
  pub bytes_fit : bytes ≡ pick ok (expected_of s) 0

three : (a b c : Bool) → first_refusal a b c ≡ success
    → (a ≡ false) × (b ≡ true) × (c ≡ true)
three true b c e = absurd (omega arith)
three false false c e = absurd (omega arith)
three false true false e = absurd (omega arith)
three false true true e = (refl, refl, refl)

pub not_refused : (s : Collection) (ok : Bool) (bytes copy : ℕ) → refusal_of s ok bytes copy ≡ success → Taken s ok bytes copy
unfolding refusal_of completion_fits
not_refused s ok bytes copy e =
    let t = three (ended_by s.phase) (valid_state s) (completion_fits s ok bytes copy) e in
    record {
      going = t.0;
      state = t.1;
      copy_fits = eqb-true copy s.plan.room (and_left (eqb copy s.plan.room) (eqb bytes (pick ok (expected_of s) 0)) t.2);
      bytes_fit = eqb-true bytes (pick ok (expected_of s) 0) (and_right (eqb copy s.plan.room) (eqb bytes (pick ok (expected_of s) 0)) t.2);
    }

-- what speaks against a step of a state, from its parts
pub refusal_is : (s : Collection) (ok : Bool) (bytes copy : ℕ) → refusal_by s.plan s.phase s.attempt s.count (record { ok = ok; bytes = bytes; copy = copy }) ≡ refusal_of s ok bytes copy
unfolding refusal_by refusal_of valid_state completion_fits expected_of
refusal_is s ok bytes copy = refl

-- what `decide` is where its refusal is known
pub decide_yes : (s : Collection) (ok : Bool) (bytes copy : ℕ) (h : Seen) (n : ℕ) (m : Move) (r : Decided)
    → n ≡ refusal_of s ok bytes copy → n ≡ success → m ≡ move_of s ok h → r ≡ made_of s h m → r ≡ decide_of s ok bytes copy h
unfolding decide_of
decide_yes s ok bytes copy h n m r en z em er = er ∙ rw (sym en ∙ z, em)

pub decide_no : (s : Collection) (ok : Bool) (bytes copy : ℕ) (h : Seen) (n : ℕ) (r : Decided)
    → n ≡ refusal_of s ok bytes copy → (n ≡ success → ⊥) → r ≡ refused_of s n → r ≡ decide_of s ok bytes copy h
unfolding decide_of
decide_no s ok bytes copy h n r en z er = er ∙ rw (ne_eqb (refusal_of s ok bytes copy) success (λ e. z (en ∙ e)), en)

-- the copy after a step is touched as was decided
pub settled_is : (s : Collection) (ok : Bool) (d copy : List ℕ) {h : Seen} {x : Decided} → h ≡ look_of s d → x ≡ decide_of s ok (length d) (length copy) h
    → touched x.touch d copy ≡ copy_after s ok d copy
unfolding copy_after
settled_is s ok d copy e f = rw (f, e)

-- ---- the move that a completion calls for

-- what an answer of this number says of a header's fault: with 7 what is at fault in the header, which is one that is judged and came, by its plan if it is a first
-- one; with any other nothing
pub record Says (s : Collection) (ok : Bool) (h : Seen) (number : ℕ) (fault : Option Fault) : Type 0 where
  pub told : fault ≡ pick (eqb number bad_header) h.fault None
  pub judged : number ≡ bad_header → judged_by s.phase ≡ true
  pub came : number ≡ bad_header → ok ≡ true
  pub first : number ≡ bad_header → s.phase ≡ First → h.answer ≡ bad_header
  pub later : number ≡ bad_header → closing_by s.phase ≡ true → faultless h.fault ≡ false

pub says_nothing : {s : Collection} {ok : Bool} {h : Seen} {number : ℕ} {fault : Option Fault} → fault ≡ None → eqb number bad_header ≡ false → Says s ok h number fault
says_nothing {number = number} x t =
    let n = eqb-false number bad_header t in
    record { told = x ∙ rw t; judged = λ q. absurd (n q); came = λ q. absurd (n q); first = λ q. absurd (n q); later = λ q. absurd (n q) }

-- all moves that a completion can call for in a state, each with what holds then
pub record Moves (P : Move → Type 0) (s : Collection) (ok : Bool) (h : Seen) : Type 0 where
  pub fail : (e : Ending) → good e ≡ false → Says s ok h (number_of e) (fault_in e) → P (End e false)
  pub short : (e : Ending) → good e ≡ false → Says s ok h (number_of e) (fault_in e) → closing_by s.phase ≡ true → s.attempt.number < s.plan.attempts → P (End e true)
  pub first : s.phase ≡ First → TakenByPlan h → P (Open false)
  pub again : closing_by s.phase ≡ true → s.attempt.number < s.plan.attempts → Opens s.plan h → P (Open true)
  pub more : (at : ℕ) → s.phase ≡ Chunk at → ok ≡ true → P (More at)
  pub skip : (at : ℕ) → s.phase ≡ Chunk at → ok ≡ false → P Skip
  pub acknowledge : s.phase ≡ Close false → matches s.attempt h ≡ true → s.plan.page ≡ controller_page → P Acknowledge
  pub stand : s.phase ≡ Close false → matches s.attempt h ≡ true → eqb s.plan.page controller_page ≡ false → P (End (Success false) false)
  pub done : s.phase ≡ Ack → ok ≡ true → P (End (Success (newer_than s.attempt h)) false)

-- what holds of all of them holds of the one that it calls for
module _ (P : Move → Type 0) (s : Collection) (ok : Bool) (h : Seen) (m : Moves P s ok h) where
  by_match : (after : Bool) → s.phase ≡ Close after → not (faultless h.fault) ≡ false → shows_none s.plan h ≡ false
      → P (match_order (tests_of s.plan s.attempt ok h) after)
  unfolding match_order tests_of
  by_match after e g n =
      let f : closing_by s.phase ≡ true = rw e in
      pick_cases P (matches s.attempt h && after) (λ b. m.fail BrokeItsWord refl (says_nothing refl refl))
      (λ b. pick_cases P (matches s.attempt h && eqb s.plan.page controller_page)
      (λ w. let q = and_left (matches s.attempt h) (eqb s.plan.page controller_page) w in
      let a : after ≡ false = rw q at b in
      m.acknowledge (e ∙ ap Close a) q (eqb-true _ _ (and_right (matches s.attempt h) (eqb s.plan.page controller_page) w)))
      (λ w. pick_cases P (matches s.attempt h)
      (λ q. let a : after ≡ false = rw q at b in m.stand (e ∙ ap Close a) q (rw q at w))
      (λ q. pick_cases P (leb s.plan.attempts s.attempt.number) (λ u. m.fail UsedUp refl (says_nothing refl refl))
      (λ u. let l = leb-false s.plan.attempts s.attempt.number u in
      pick_cases P (eqb (area_answer s.plan h.last) out_of_reach) (λ o. m.short OutOfReach refl (says_nothing refl refl) f l)
      (λ o. pick_cases P (eqb (area_answer s.plan h.last) no_room) (λ r. m.short NoRoom refl (says_nothing refl refl) f l)
      (λ r. m.again f l (record { good = not-false _ g; some = n; fits = unopposed_fits s.plan h.last o r })))))))

  -- a bad header, a first one by its plan and a later one by its fault
  by_plan_of : s.phase ≡ First → not ok ≡ false → h.answer ≡ bad_header → P (End (BadHeader h.fault) false)
  by_plan_of e k g =
      m.fail (BadHeader h.fault) refl
      (record { told = refl; judged = λ q. ap judged_by e; came = λ q. not-false ok k; first = λ q f. g; later = λ q c. clash c (ap closing_by e) })

  by_fault : (after : Bool) → s.phase ≡ Close after → not ok ≡ false → not (faultless h.fault) ≡ true → P (End (BadHeader h.fault) false)
  by_fault after e k g =
      m.fail (BadHeader h.fault) refl
      (record {
        told = refl;
        judged = λ q. ap judged_by e;
        came = λ q. not-false ok k;
        first = λ q f. clash {t = true} refl (ap closing_by (sym e ∙ f));
        later = λ q c. not-true _ g;
      })

  by_phase : (f : Phase) → s.phase ≡ f → P (judge_by f (tests_of s.plan s.attempt ok h))
  unfolding judge_by first_order later_order tests_of
  by_phase First e =
      pick_cases P (not ok) (λ k. m.fail BrokeItsWord refl (says_nothing refl refl))
      (λ k. pick_cases P (eqb h.answer bad_header) (λ g. by_plan_of e k (eqb-true _ _ g))
      (λ g. pick_cases P (eqb h.answer nothing) (λ n. m.fail Nothing refl (says_nothing refl refl))
      (λ n. pick_cases P (eqb h.answer out_of_reach) (λ o. m.fail OutOfReach refl (says_nothing refl refl))
      (λ o. pick_cases P (eqb h.answer no_room) (λ r. m.fail NoRoom refl (says_nothing refl refl)) (λ r. m.first e (record { good = g; some = n; near = o; room = r }))))))
  by_phase (Chunk at) e = pick_cases P (not ok) (λ k. m.skip at e (not-true ok k)) (λ k. m.more at e (not-false _ k))
  by_phase (Close after) e =
      pick_cases P (not ok) (λ k. m.fail BrokeItsWord refl (says_nothing refl refl))
      (λ k. pick_cases P (not (faultless h.fault)) (λ g. by_fault after e k g)
      (λ g. pick_cases P (shows_none s.plan h) (λ n. m.fail Withdrawn refl (says_nothing refl refl)) (λ n. by_match after e g n)))
  by_phase Ack e = pick_cases P (not ok) (λ k. m.fail BrokeItsWord refl (says_nothing refl refl)) (λ k. m.done e (not-false _ k))
  by_phase Ended e = m.fail BrokeItsWord refl (says_nothing refl refl)

  pub move_cases : P (move_of s ok h)
  unfolding move_of
  move_cases = by_phase s.phase refl
