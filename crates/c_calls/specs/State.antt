-- A state across the C boundary: what setup and step write keeps what the types say, whatever data a step is given, and so the state that a call's bytes
-- say is the state that the call's definition gave.
-- Assumes nothing.
use Rattle.std.specs.Prelude.{ℕ, ◌+◌, ◌^◌, ◌<◌, ◌≡◌, refl, List, Bool, true, length, get_or, leb, eqb}
use Rattle.std.proofs.Common.{sym, ap, subst, ◌∙◌, arith, leb-true, eqb-true}
use Rattle.choices.specs.Choice.{pick_cases}
use Rattle.choices.specs.Tests.{by_test, same_or_not, each, and_right}
use Rattle.copies.specs.Parts.{zeros}
use Rattle.littleendian.specs.Numbers.{value_at}
use Rattle.littleendian.specs.Back.{Bytes, value_small}
use Rattle.arrays.specs.Back.{Four, four_of, fours_small}
use Rattle.answers.specs.Answers.{success}
use Rattle.pages.specs.Pages.{block}
use Rattle.lastblocks.specs.Rule.{last_rule}
use Rattle.lastblocks.specs.Laws.{rule_ranged}
use Rattle.header.specs.declared.Fields.{Fields}
use Rattle.header.specs.Header.{last_at, fields_of, fields_ok, faultless, fault_of, no_fields, check_of}
use Rattle.header.specs.Faults.{faultless_header}
use Rattle.plans.specs.declared.Plan.{Plan}
use Rattle.phases.specs.declared.Phase.{Phase}
use Rattle.phases.specs.declared.Phase.TheVariants.{First, Chunk, Close, Ack, Ended}
use Rattle.plans.specs.Plans.{setup_answer, area_last}
use Rattle.phases.specs.Asked.{phase_at}
use Rattle.plans.specs.Limits.{plan_limits}
use Rattle.completions.specs.declared.Seen.{Seen}
use Rattle.completions.specs.Plan.{Planned, least_plan, answer_to, planned_by, plan_of, plan_by}
use Rattle.completions.specs.Completions.{planned_seen, seen_of, look_by}
use Rattle.judgement.specs.declared.Move.{Move}
use Rattle.judgement.specs.declared.Move.TheVariants.{End, Open, More, Skip, Acknowledge}
use Rattle.collection.specs.declared.Collection.{Collection}
use Rattle.collection.specs.Told.{Stepped}
use Rattle.collection.specs.Collection.{valid_state, refusal_of, look_of, move_of, number_in, setup_of, step_of, copy_after}
use Rattle.collection.specs.Laws.{valid_bounded, not_refused}
use Rattle.collection.specs.Steps.{makes, refused_step, taken_step}
use Rattle.state_layout.specs.Layout.{chunk_start, phase_of, state_bytes, state_at, state_intact}
use Rattle.state_layout.specs.Back.{Typed, state_back}
use Rattle.next_layout.specs.Layout.{refusal, kind_of, next_bytes}
use Rattle.host_boundary.specs.Boundary.{step_at}
use Rattle.host_boundary.specs.Laws.{refused_unread}

-- ---- what bytes say

start_small : (n at : ℕ) → at < 256 ^ 4 → chunk_start (phase_of n at) < 256 ^ 4
unfolding phase_of
start_small n at h =
    pick_cases (λ (f : Phase). chunk_start f < 256 ^ 4) (eqb n 0) (λ e. omega arith)
    (λ e. pick_cases (λ (f : Phase). chunk_start f < 256 ^ 4) (eqb n 1) (λ e. h)
    (λ e. pick_cases (λ (f : Phase). chunk_start f < 256 ^ 4) (eqb n 2) (λ e. omega arith)
    (λ e. pick_cases (λ (f : Phase). chunk_start f < 256 ^ 4) (eqb n 3) (λ e. omega arith)
    (λ e. pick_cases (λ (f : Phase). chunk_start f < 256 ^ 4) (eqb n 4) (λ e. omega arith) (λ e. omega arith)))))

-- the state that bytes say is all that its types say
pub at_typed : (b : List ℕ) → Bytes b → Typed (state_at b)
unfolding state_at
at_typed b t = record {
  chunk = value_small 4 8 b t;
  attempts = value_small 4 12 b t;
  attempt = value_small 4 16 b t;
  start = start_small (get_or b 0 0) (value_at 4 20 b) (value_small 4 20 b t);
  room = value_small 8 24 b t;
  count = value_small 8 32 b t;
  last = fours_small 40 b t;
}

-- ---- what is seen of data: a header with a fault shows no last blocks, and one without shows such as keep the rule

zeros_four : Four (zeros 4)
zeros_four = four_of 0 0 0 0 (omega arith) (omega arith) (omega arith) (omega arith)

checked_four : (page : ℕ) (da4s : Bool) (d : List ℕ) → Four (check_of page da4s d).fields.last
unfolding check_of no_fields fields_ok
checked_four page da4s d =
    pick_cases (λ (f : Fields). Four f.last) (faultless (fault_of page da4s d))
    (λ e.
    let k : fields_ok page da4s (fields_of page d) ≡ true = and_right (eqb (length d) block) _ (sym (faultless_header page da4s d) ∙ e) in
    record { four = refl; each = rule_ranged da4s (last_at d) (last_rule da4s (last_at d) (each _ k 1)) refl })
    (λ e. zeros_four)

planned_four : (p : Plan) (d : List ℕ) → Four (plan_by p d).fields.last
unfolding plan_of planned_by no_fields
planned_four p d =
    pick_cases (λ (x : Planned). Four x.fields.last)
    (eqb (answer_to (least_plan p.page p.area p.caps p.chunk p.room) (check_of p.page p.caps.da4s d)) success)
    (λ e. checked_four p.page p.caps.da4s d) (λ e. zeros_four)

look_four : (f : Phase) (p : Plan) (d : List ℕ) → Four (look_by f p d).last
unfolding look_by planned_seen seen_of
look_four First p d = planned_four p d
look_four (Chunk at) p d = zeros_four
look_four (Close after) p d = checked_four _ _ d
look_four Ack p d = checked_four _ _ d
look_four Ended p d = zeros_four

-- ---- a step keeps what the types say

area_small : (p : Plan) (last : List ℕ) → Four last → area_last p last < 256 ^ 4
area_small p last f =
    pick_cases (λ (x : ℕ). x < 256 ^ 4) (eqb p.area 1) (λ e. f.each 0)
    (λ e. pick_cases (λ (x : ℕ). x < 256 ^ 4) (eqb p.area 2) (λ e. f.each 1)
    (λ e. pick_cases (λ (x : ℕ). x < 256 ^ 4) (eqb p.area 3) (λ e. f.each 2) (λ e. f.each 3)))

phase_small : (at b : ℕ) → b < 256 ^ 4 → chunk_start (phase_at at b) < 256 ^ 4
unfolding phase_at
phase_small at b h =
    pick_cases (λ (f : Phase). chunk_start f < 256 ^ 4) (leb at b) (λ e. let l = leb-true at b e in omega arith) (λ e. omega arith)

module _ (s : Collection) (h : Seen) (t : Typed s) (ok : valid_state s ≡ true) (four : Four h.last) where
  number : (next : Bool) → number_in s next < 256 ^ 4
  number next =
      let b = valid_bounded s ok in
      pick_cases (λ (x : ℕ). x < 256 ^ 4) next (λ e. omega arith) (λ e. omega arith)

  one_more : s.count + 1 < 256 ^ 8
  one_more = let b = valid_bounded s ok in omega arith

  makes_typed : (m : Move) → Typed (makes s h m).state
  unfolding makes
  makes_typed (End e next) =
      record { chunk = t.chunk; attempts = t.attempts; attempt = number next; start = omega arith; room = t.room; count = t.count; last = t.last }
  makes_typed (Open next) = record {
    chunk = t.chunk;
    attempts = t.attempts;
    attempt = number next;
    start = phase_small _ _ (area_small s.plan h.last four);
    room = t.room;
    count = one_more;
    last = four;
  }
  makes_typed (More at) = record {
    chunk = t.chunk;
    attempts = t.attempts;
    attempt = t.attempt;
    start = phase_small _ _ (area_small s.plan s.attempt.last t.last);
    room = t.room;
    count = one_more;
    last = t.last;
  }
  makes_typed Skip =
      record { chunk = t.chunk; attempts = t.attempts; attempt = t.attempt; start = omega arith; room = t.room; count = one_more; last = t.last }
  makes_typed Acknowledge =
      record { chunk = t.chunk; attempts = t.attempts; attempt = t.attempt; start = omega arith; room = t.room; count = one_more; last = t.last }

-- whatever a step is given, the state that it gives is all that its types say
pub step_typed : (s : Collection) (ok : Bool) (d : List ℕ) (n : ℕ) → Typed s → Typed (step_of s ok d n).state
unfolding look_of
step_typed s ok d n t =
    same_or_not (refusal_of s ok (length d) n) success
    (λ r. subst (λ (x : Stepped). Typed x.state) (sym (taken_step s ok d n r))
    (makes_typed s (look_of s d) t (not_refused s ok (length d) n r).state (look_four s.phase s.plan d) (move_of s ok (look_of s d))))
    (λ r. subst (λ (x : Stepped). Typed x.state) (sym (refused_step s ok d n r)) t)

-- so is setup's where its numbers are
pub setup_typed : (p : Plan) → p.chunk < 256 ^ 4 → p.attempts < 256 ^ 4 → p.room < 256 ^ 8 → Typed (setup_of p).state
unfolding setup_of
setup_typed p c a r =
    pick_cases (λ (x : Stepped). Typed x.state) (eqb (setup_answer p) success)
    (λ e. record { chunk = c; attempts = a; attempt = omega arith; start = omega arith; room = r; count = omega arith; last = zeros_four })
    (λ e. record { chunk = c; attempts = a; attempt = omega arith; start = omega arith; room = r; count = omega arith; last = zeros_four })

-- and where setup takes them
pub taken_typed : (p : Plan) → setup_answer p ≡ success → Typed (setup_of p).state
taken_typed p e = let l = plan_limits p e in setup_typed p (omega arith) (omega arith) (omega arith)

-- ---- call after call

-- The state that setup's bytes say is the state that setup gave.
pub setup_chained : (p : Plan) → p.chunk < 256 ^ 4 → p.attempts < 256 ^ 4 → p.room < 256 ^ 8 → state_at (state_bytes (setup_of p).state) ≡ (setup_of p).state
setup_chained p c a r = state_back (setup_of p).state (setup_typed p c a r)

-- The state that a step's bytes say is the state that the step gave: chained calls are chained steps.
pub chained : (s : List ℕ) (ok : Bool) (d copy : List ℕ) → Typed (state_at s) → state_intact s ≡ true
    → state_at (step_at s ok d copy).state ≡ (step_of (state_at s) ok d (length copy)).state
unfolding step_at
chained s ok d copy t p =
    let x = step_of (state_at s) ok d (length copy) in
    rw p (by_test (eqb (kind_of x.next) refusal)
    (λ e. rw e (ap (λ (y : Stepped). y.state) (sym (refused_step (state_at s) ok d (length copy) (refused_unread s ok d copy (eqb-true _ _ e))))))
    (λ e. rw e (state_back x.state (step_typed (state_at s) ok d (length copy) t))))

-- and the copy is the one that it gave
pub step_copy : (s : List ℕ) (ok : Bool) (d copy : List ℕ) → state_intact s ≡ true → (step_at s ok d copy).copy ≡ copy_after (state_at s) ok d copy
unfolding step_at
step_copy s ok d copy p = rw p

-- and so are the bytes of what follows
pub step_follows : (s : List ℕ) (ok : Bool) (d copy : List ℕ) → state_intact s ≡ true
    → (step_at s ok d copy).follows ≡ next_bytes (step_of (state_at s) ok d (length copy)).next
unfolding step_at
step_follows s ok d copy p = rw p
