-- What a step does, by what was awaited and what came: laws that callers cite, so that they never look into the step's definition. h is what is
-- seen of the data.
-- Assumes nothing.
use Rattle.std.specs.Prelude.{ℕ, ◌+◌, ◌-◌, ◌*◌, ◌≤◌, ◌<◌, ◌≡◌, List, Bool, length, eqb}
use Rattle.std.proofs.Math.Path.{refl, ap}
use Rattle.std.proofs.Common.{sym, ◌∙◌}
use Rattle.std.proofs.Math.Bool.{true, false}
use borrow.Author.Tests.{eqb-true, eq-eqb, ne_eqb, le-leb, lt-leb}
use Rattle.choices.specs.Choice.{pick}
use Rattle.choices.specs.Tests.{each}
use Rattle.answers.specs.Answers.{success}
use Rattle.pages.specs.Pages.{controller_page, block}
use Rattle.header.specs.Header.{faultless}
use Rattle.plans.specs.declared.Plan.{Plan}
use Rattle.phases.specs.declared.Phase.{Phase}
use Rattle.phases.specs.declared.Phase.TheVariants.{First, Chunk, Close, Ack, Ended}
use Rattle.phases.specs.Phases.{closing_by, refused_by, ended_by, closing_is}
use Rattle.plans.specs.Plans.{setup_answer, area_bytes, area_answer, fits, lead_of}
use Rattle.plans.specs.Limits.{short_is}
use Rattle.phases.specs.Awaited.{Awaits, awaited_built}
use Rattle.completions.specs.declared.Seen.{Seen}
use Rattle.touches.specs.declared.Touch.{Touch}
use Rattle.touches.specs.declared.Touch.TheVariants.{Keep, Place}
use Rattle.completions.specs.Completions.{planned_seen, seen_of, look_by, shows_none}
use Rattle.completions.specs.Looked.{look_closing, planned_bad, planned_none, planned_by_area, planned_opens}
use Rattle.endings.specs.declared.Ending.TheVariants.{Success, BadHeader, OutOfReach, NoRoom, UsedUp, Withdrawn, Nothing, BrokeItsWord}
use Rattle.judgement.specs.declared.Move.{Move}
use Rattle.judgement.specs.declared.Move.TheVariants.{End, Open, More, Skip, Acknowledge}
use Rattle.endings.specs.Endings.{short_by}
use Rattle.judgement.specs.Judgement.{matches, newer_than, tests_of, first_order, match_order, later_order, judge_by}
use Rattle.turns.specs.Turns.{opening_of, following_of, left_by, turn_of}
use Rattle.touches.specs.Touched.{touched}
use Rattle.collection.specs.declared.Collection.{Collection}
use Rattle.collection.specs.Told.{Stepped}
use Rattle.collection.specs.Told.{Decided}
use Rattle.collection.specs.Collection.{valid_state, look_of, refusal_of, move_of, turn_by, number_in, sends, ends, refuses, act_of, made_of, step_of, copy_after, beginning, setup_of}
use Rattle.collection.specs.Laws.{state_valid, not_refused, decide_yes, decide_no}

-- the state with another command sent in its attempt
abbrev pub in_phase : Collection → Phase → Collection
in_phase s f = record { plan = s.plan; phase = f; attempt = s.attempt; count = s.count + 1 }

-- the state whose attempt, this one or the next, the header opens
abbrev pub opened_by : Collection → Bool → Seen → Collection
opened_by s next h = record {
  plan = s.plan;
  phase = opening_of s.plan h.last;
  attempt = record { number = number_in s next; generation = h.generation; last = h.last };
  count = s.count + 1;
}

-- the state that has ended, in this attempt or the next
abbrev pub ended_in : Collection → Bool → Collection
ended_in s next = record {
  plan = s.plan;
  phase = Ended;
  attempt = record { number = number_in s next; generation = s.attempt.generation; last = s.attempt.last };
  count = s.count;
}

-- what a move makes of the state
unfoldable pub makes : Collection → Seen → Move → Stepped
makes s h (End e next) = ends (ended_in s next) e
makes s h (Open next) = sends (opened_by s next h)
makes s h (More at) = sends (in_phase s (following_of s.plan s.attempt.last at))
makes s h Skip = sends (in_phase s (Close true))
makes s h Acknowledge = sends (in_phase s Ack)

pub made_is : (s : Collection) (h : Seen) (m : Move) → (made_of s h m).stepped ≡ makes s h m
unfolding makes act_of turn_by turn_of
made_is s h (End e next) = refl
made_is s h (Open next) = refl
made_is s h (More at) = refl
made_is s h Skip = refl
made_is s h Acknowledge = refl

-- and of the copy
unfoldable pub touches : Collection → Move → Touch
touches s (End e next) = left_by e (area_bytes s.plan s.attempt.last)
touches s (Open next) = Keep
touches s (More at) = Place (block * lead_of s.plan) (block * (at - 1))
touches s Skip = Keep
touches s Acknowledge = Keep

pub made_touches : (s : Collection) (h : Seen) (m : Move) → (made_of s h m).touch ≡ touches s m
unfolding touches turn_by turn_of
made_touches s h (End e next) = refl
made_touches s h (Open next) = refl
made_touches s h (More at) = refl
made_touches s h Skip = refl
made_touches s h Acknowledge = refl

-- ---- the awaited command of a valid state, made by hand or not, is never a builder's refusal

pub awaited_taken : (s : Collection) → valid_state s ≡ true → ended_by s.phase ≡ false → Awaits s.phase s.plan s.attempt.last
unfolding valid_state
awaited_taken s e g = awaited_built s.phase s.plan s.attempt.last (state_valid s e).plan (each _ e 3) g

-- ---- setup

-- setup where its answer is known
setup_by : Bool → Plan → Stepped
setup_by t p = pick t (sends (beginning p First 1)) (refuses (beginning p Ended 0) (setup_answer p))

pub setup_taken : (p : Plan) → setup_answer p ≡ success
    → setup_of p ≡ sends (beginning p First 1)
unfolding setup_of setup_by
setup_taken p e = ap (λ (t : Bool). setup_by t p) (eq-eqb (setup_answer p) success e)

pub setup_refused : (p : Plan) → (setup_answer p ≡ success → ⊥)
    → setup_of p ≡ refuses (beginning p Ended 0) (setup_answer p)
unfolding setup_of setup_by
setup_refused p e = ap (λ (t : Bool). setup_by t p) (ne_eqb (setup_answer p) success e)

-- ---- a refusal changes nothing

pub refused_step : (s : Collection) (ok : Bool) (d : List ℕ) (n : ℕ) → (refusal_of s ok (length d) n ≡ success → ⊥)
    → step_of s ok d n ≡ refuses s (refusal_of s ok (length d) n)
unfolding step_of
refused_step s ok d n r = ap (λ (x : Decided). x.stepped) (sym (decide_no s ok (length d) n (look_of s d) _ _ refl r refl))

pub refused_copy : (s : Collection) (ok : Bool) (d copy : List ℕ) → (refusal_of s ok (length d) (length copy) ≡ success → ⊥)
    → copy_after s ok d copy ≡ copy
unfolding copy_after touched
refused_copy s ok d copy r =
    ap (λ (x : Decided). touched x.touch d copy) (sym (decide_no s ok (length d) (length copy) (look_of s d) _ _ refl r refl))

-- ---- a completion that is taken does what its move says

pub taken_step : (s : Collection) (ok : Bool) (d : List ℕ) (n : ℕ) → refusal_of s ok (length d) n ≡ success
    → step_of s ok d n ≡ makes s (look_of s d) (move_of s ok (look_of s d))
unfolding step_of
taken_step s ok d n r =
    ap (λ (x : Decided). x.stepped) (sym (decide_yes s ok (length d) n (look_of s d) _ _ _ refl r refl refl))
    ∙ made_is s (look_of s d) (move_of s ok (look_of s d))

pub taken_copy : (s : Collection) (ok : Bool) (d copy : List ℕ) → refusal_of s ok (length d) (length copy) ≡ success
    → copy_after s ok d copy ≡ touched (touches s (move_of s ok (look_of s d))) d copy
unfolding copy_after
taken_copy s ok d copy r =
    ap (λ (x : Decided). touched x.touch d copy) (sym (decide_yes s ok (length d) (length copy) (look_of s d) _ _ _ refl r refl refl))
    ∙ ap (λ (x : Touch). touched x d copy) (made_touches s (look_of s d) (move_of s ok (look_of s d)))

-- the move of a step put in, by its phase
module _ (s : Collection) (ok : Bool) (d : List ℕ) (n : ℕ) (r : refusal_of s ok (length d) n ≡ success) where
  moved : (f : Phase) (m : Move) → s.phase ≡ f → judge_by f (tests_of s.plan s.attempt ok (look_of s d)) ≡ m
      → step_of s ok d n ≡ makes s (look_of s d) m
  unfolding move_of
  moved f m p e =
      taken_step s ok d n r
      ∙ ap (λ (x : Move). makes s (look_of s d) x)
      (ap (λ (g : Phase). judge_by g (tests_of s.plan s.attempt ok (look_of s d))) p ∙ e)

-- ---- the first header: 12, and then as its plan answers, 7, 11, 19, 8, or it opens the attempt. What the check finds in it decides that.

module _ (s : Collection) (ok : Bool) (d : List ℕ) (n : ℕ) (r : refusal_of s ok (length d) n ≡ success) (f : s.phase ≡ First) where
  -- setup takes the plan of a state that is not refused
  plan_is : setup_answer s.plan ≡ success
  plan_is = (state_valid s (not_refused s ok (length d) n r).state).plan

  pub looks_planned : look_of s d ≡ planned_seen s.plan d
  unfolding look_of look_by
  looks_planned = ap (λ (g : Phase). look_by g s.plan d) f

  first : (m : Move) → first_order (tests_of s.plan s.attempt ok (planned_seen s.plan d)) ≡ m → step_of s ok d n ≡ makes s (planned_seen s.plan d) m
  unfolding judge_by
  first m e =
      moved s ok d n r First m f (ap (λ (h : Seen). first_order (tests_of s.plan s.attempt ok h)) looks_planned ∙ e)
      ∙ ap (λ (h : Seen). makes s h m) looks_planned

  pub first_refused : ok ≡ false → step_of s ok d n ≡ ends (ended_in s false) BrokeItsWord
  unfolding makes first_order tests_of
  first_refused k = first (End BrokeItsWord false) (rw k)

  module _ (k : ok ≡ true) where
    pub first_bad : faultless (seen_of s.plan d).fault ≡ false → step_of s ok d n ≡ ends (ended_in s false) (BadHeader (seen_of s.plan d).fault)
    unfolding makes first_order tests_of
    first_bad g =
        let b = planned_bad s.plan d plan_is g in
        first (End (BadHeader (seen_of s.plan d).fault) false) (rw (k, b.0, b.1))

    module _ (g : faultless (seen_of s.plan d).fault ≡ true) where
      pub first_none : shows_none s.plan (seen_of s.plan d) ≡ true → step_of s ok d n ≡ ends (ended_in s false) Nothing
      unfolding makes first_order tests_of
      first_none w = first (End Nothing false) (rw (k, planned_none s.plan d plan_is g w))

      pub first_short : shows_none s.plan (seen_of s.plan d) ≡ false → fits s.plan (seen_of s.plan d).last ≡ false
          → step_of s ok d n ≡ ends (ended_in s false) (short_by (area_answer s.plan (seen_of s.plan d).last))
      unfolding makes first_order tests_of
      first_short w l =
          let a = planned_by_area s.plan d plan_is g w in
          short_is s.plan (seen_of s.plan d).last l
          (λ o b. first (End OutOfReach false) (rw (k, a ∙ b)) ∙ rw b)
          (λ o r b. first (End NoRoom false) (rw (k, a ∙ b)) ∙ rw b)

      pub first_opens : shows_none s.plan (seen_of s.plan d) ≡ false → fits s.plan (seen_of s.plan d).last ≡ true
          → step_of s ok d n ≡ sends (opened_by s false (seen_of s.plan d))
      unfolding makes first_order tests_of seen_of
      first_opens w l =
          let e = planned_opens s.plan d plan_is g w l in
          first (Open false) (rw (k, e)) ∙ ap (λ (h : Seen). sends (opened_by s false h)) e

-- ---- a chunk: a good one is followed by the next or by the closing header, a refused one by the header

module _ (s : Collection) (at : ℕ) (d : List ℕ) (n : ℕ) (f : s.phase ≡ Chunk at) where
  pub chunk_good : refusal_of s true (length d) n ≡ success → step_of s true d n ≡ sends (in_phase s (following_of s.plan s.attempt.last at))
  unfolding makes judge_by tests_of
  chunk_good r = moved s true d n r (Chunk at) (More at) f refl

  pub chunk_refused : refusal_of s false (length d) n ≡ success → step_of s false d n ≡ sends (in_phase s (Close true))
  unfolding makes judge_by tests_of
  chunk_refused r = moved s false d n r (Chunk at) Skip f refl

-- ---- a later header: 12, 7, 10; on a match 12 after a refused chunk, success on 07h, the acknowledgement on 08h; on a mismatch 9, 19, 8, or it
-- opens the next attempt. What the check finds in it decides that.

module _ (s : Collection) (ok : Bool) (d : List ℕ) (n : ℕ) (r : refusal_of s ok (length d) n ≡ success) (f : closing_by s.phase ≡ true) where
  looks_checked : look_of s d ≡ seen_of s.plan d
  unfolding look_of
  looks_checked = look_closing s.phase s.plan d f

  later : (m : Move) → later_order (tests_of s.plan s.attempt ok (seen_of s.plan d)) (refused_by s.phase) ≡ m
      → step_of s ok d n ≡ makes s (seen_of s.plan d) m
  unfolding judge_by
  later m e =
      moved s ok d n r (Close (refused_by s.phase)) m (closing_is s.phase f).is
      (ap (λ (h : Seen). later_order (tests_of s.plan s.attempt ok h) (refused_by s.phase)) looks_checked ∙ e)
      ∙ ap (λ (h : Seen). makes s h m) looks_checked

  pub later_refused : ok ≡ false → step_of s ok d n ≡ ends (ended_in s false) BrokeItsWord
  unfolding makes later_order tests_of
  later_refused k = later (End BrokeItsWord false) (rw k)

  module _ (k : ok ≡ true) where
    pub later_bad : faultless (seen_of s.plan d).fault ≡ false → step_of s ok d n ≡ ends (ended_in s false) (BadHeader (seen_of s.plan d).fault)
    unfolding makes later_order tests_of
    later_bad g = later (End (BadHeader (seen_of s.plan d).fault) false) (rw (k, g))

    module _ (g : faultless (seen_of s.plan d).fault ≡ true) where
      pub later_none : shows_none s.plan (seen_of s.plan d) ≡ true → step_of s ok d n ≡ ends (ended_in s false) Withdrawn
      unfolding makes later_order tests_of
      later_none w = later (End Withdrawn false) (rw (k, g, w))

      module _ (w : shows_none s.plan (seen_of s.plan d) ≡ false) where
        pub later_broke : matches s.attempt (seen_of s.plan d) ≡ true → refused_by s.phase ≡ true → step_of s ok d n ≡ ends (ended_in s false) BrokeItsWord
        unfolding makes later_order match_order tests_of
        later_broke q z = later (End BrokeItsWord false) (rw (q, k, g, w, z))

        pub later_done : matches s.attempt (seen_of s.plan d) ≡ true → refused_by s.phase ≡ false → eqb s.plan.page controller_page ≡ false
            → step_of s ok d n ≡ ends (ended_in s false) (Success false)
        unfolding makes later_order match_order tests_of
        later_done q z p = later (End (Success false) false) (rw (q, k, g, w, z, p))

        pub later_acknowledges : matches s.attempt (seen_of s.plan d) ≡ true → refused_by s.phase ≡ false → eqb s.plan.page controller_page ≡ true
            → step_of s ok d n ≡ sends (in_phase s Ack)
        unfolding makes later_order match_order tests_of
        later_acknowledges q z p = later Acknowledge (rw (q, k, g, w, z, p))

        pub later_used_up : matches s.attempt (seen_of s.plan d) ≡ false → s.plan.attempts ≤ s.attempt.number → step_of s ok d n ≡ ends (ended_in s false) UsedUp
        unfolding makes later_order match_order tests_of
        later_used_up q u = later (End UsedUp false) (rw (q, k, g, w, le-leb s.plan.attempts s.attempt.number u))

        pub later_short : matches s.attempt (seen_of s.plan d) ≡ false → s.attempt.number < s.plan.attempts → fits s.plan (seen_of s.plan d).last ≡ false
            → step_of s ok d n ≡ ends (ended_in s true) (short_by (area_answer s.plan (seen_of s.plan d).last))
        unfolding makes later_order match_order tests_of
        later_short q u l =
            let v = lt-leb s.plan.attempts s.attempt.number u in
            short_is s.plan (seen_of s.plan d).last l
            (λ o b. later (End OutOfReach true) (rw (q, k, g, w, v, b)) ∙ rw b)
            (λ o r b. later (End NoRoom true) (rw (q, k, g, w, v, b)) ∙ rw b)

        pub later_opens : matches s.attempt (seen_of s.plan d) ≡ false → s.attempt.number < s.plan.attempts → fits s.plan (seen_of s.plan d).last ≡ true
            → step_of s ok d n ≡ sends (opened_by s true (seen_of s.plan d))
        unfolding makes later_order match_order tests_of
        later_opens q u l = later (Open true) (rw (q, k, g, w, lt-leb s.plan.attempts s.attempt.number u, eqb-true (area_answer s.plan (seen_of s.plan d).last) success l))

-- ---- the acknowledgement: 12, or success, with the newer generation said

module _ (s : Collection) (d : List ℕ) (n : ℕ) (f : s.phase ≡ Ack) where
  pub ack_refused : refusal_of s false (length d) n ≡ success → step_of s false d n ≡ ends (ended_in s false) BrokeItsWord
  unfolding makes judge_by tests_of
  ack_refused r = moved s false d n r Ack (End BrokeItsWord false) f refl

  pub ack_done : refusal_of s true (length d) n ≡ success → step_of s true d n ≡ ends (ended_in s false) (Success (newer_than s.attempt (look_of s d)))
  unfolding makes judge_by tests_of
  ack_done r = moved s true d n r Ack (End (Success (newer_than s.attempt (look_of s d))) false) f refl
