-- The headers of a run, whatever completes its commands, a drive that lies among them: a copy stands only after a closing header with the generation and all four
-- last blocks of the header that opened the attempt. So a copy whose closing header shows another size is never a success.
-- Assumes nothing.
use Rattle.std.specs.Prelude.{ℕ, ◌≡◌, List, [], ◌∷◌, ◌++◌, Bool, ◌&&◌, length, leb, eqb}
use Rattle.std.proofs.Common.{sym, ◌∙◌, append_assoc, append-nil, eqb-true, ne_eqb}
use Rattle.std.proofs.Math.Path.{ap, subst}
use Rattle.std.proofs.Math.Bool.{true, false}
use Rattle.choices.specs.Choice.{pick, pick_cases}
use Rattle.choices.specs.Tests.{clash, and_left, and_right, same_or_not}
use Rattle.answers.specs.Answers.{success}
use Rattle.lastblocks.specs.LastBlocks.{same_last}
use Rattle.plans.specs.declared.Plan.{Plan}
use Rattle.phases.specs.declared.Phase.{Phase}
use Rattle.phases.specs.declared.Phase.TheVariants.{First, Chunk, Close, Ack, Ended}
use Rattle.phases.specs.Phases.{judged_by, closing_by, closing_is}
use Rattle.plans.specs.Plans.{setup_answer, area_last}
use Rattle.phases.specs.Asked.{phase_at}
use Rattle.completions.specs.declared.Seen.{Seen}
use Rattle.completions.specs.Completions.{seen_of}
use Rattle.completions.specs.Looked.{TakenByPlan, look_closing, taken_as_checked}
use Rattle.phases.specs.declared.Attempt.{Attempt}
use Rattle.endings.specs.declared.Ending.{Ending}
use Rattle.judgement.specs.declared.Move.{Move}
use Rattle.judgement.specs.declared.Move.TheVariants.{End, Open}
use Rattle.judgement.specs.Judgement.{matches}
use Rattle.turns.specs.Turns.{good}
use Rattle.collection.specs.declared.Collection.{Collection}
use Rattle.collection.specs.declared.Finish.{Finish}
use Rattle.collection.specs.declared.Next.TheVariants.{End as Ends}
use Rattle.collection.specs.Collection.{refusal_of, look_of, move_of, setup_of}
use Rattle.collection.specs.Copied.{not_sent, not_refusal, ending_of}
use Rattle.collection.specs.Laws.{state_valid, not_refused, move_cases}
use Rattle.collection.specs.Steps.{makes, setup_taken, refused_step, taken_step, looks_planned}
use Rattle.runs.specs.Run.{Completion, step_by, after, state_of, headers_of}
use Rattle.runs.specs.Counted.{plan_stays}

-- headers of which the last two show the same generation and the same four last blocks
pub record Paired (p : Plan) (hs : List (List ℕ)) : Type 0 where
  pub before : List (List ℕ)
  pub opening : List ℕ
  pub closing : List ℕ
  pub is : hs ≡ before ++ opening ∷ closing ∷ []
  pub generation : (seen_of p closing).generation ≡ (seen_of p opening).generation
  pub last : same_last (seen_of p closing).last (seen_of p opening).last ≡ true

-- ---- along a run

-- the attempt is that of the last header
record Shown (p : Plan) (a : Attempt) (hs : List (List ℕ)) : Type 0 where
  pub before : List (List ℕ)
  pub opening : List ℕ
  pub is : hs ≡ before ++ opening ∷ []
  pub generation : a.generation ≡ (seen_of p opening).generation
  pub last : a.last ≡ (seen_of p opening).last

-- what the headers judged so far are, by what is awaited
abbrev At : Phase → Collection → List (List ℕ) → Type 0
At First s hs = Unit {0}
At (Chunk at) s hs = Shown s.plan s.attempt hs
At (Close after) s hs = Shown s.plan s.attempt hs
At Ack s hs = Paired s.plan hs
At Ended s hs = Unit {0}

at_chunks : (at b : ℕ) (s : Collection) (hs : List (List ℕ)) → Shown s.plan s.attempt hs → At (phase_at at b) s hs
unfolding phase_at
at_chunks at b s hs x = pick_cases (λ (f : Phase). At f s hs) (leb at b) (λ e. x) (λ e. x)

-- the header that a step judges
abbrev judged : Collection → Completion → List (List ℕ)
judged s k = pick (judged_by s.phase && eqb (refusal_of s k.ok (length k.bytes) k.copy) success) (k.bytes ∷ []) []

module _ (s : Collection) (k : Completion) (hs : List (List ℕ)) (i : At s.phase s hs) where
  abbrev h : Seen
  h = look_of s k.bytes

  -- the headers after a step that is not refused, by whether it judges one
  abbrev heads : Bool → List (List ℕ)
  heads t = hs ++ pick (t && true) (k.bytes ∷ []) []

  closing_seen : closing_by s.phase ≡ true → h ≡ seen_of s.plan k.bytes
  unfolding look_of
  closing_seen f = look_closing s.phase s.plan k.bytes f

  -- a first header that opens an attempt is seen as the check finds it
  opening_seen : refusal_of s k.ok (length k.bytes) k.copy ≡ success → s.phase ≡ First → TakenByPlan h → h ≡ seen_of s.plan k.bytes
  opening_seen r f o =
      let q = looks_planned s k.ok k.bytes k.copy r f in
      q ∙ (taken_as_checked s.plan k.bytes (state_valid s (not_refused s k.ok (length k.bytes) k.copy r).state).plan (subst TakenByPlan q o)).seen

  in_phase_lem : (f : Phase) → s.phase ≡ f → At f s hs
  in_phase_lem f e = subst (λ (g : Phase). At g s hs) e i

  same_heads : (f : Phase) → s.phase ≡ f → heads (judged_by f) ≡ heads (judged_by s.phase)
  same_heads f e = ap (λ (g : Phase). heads (judged_by g)) (sym e)

  -- a match makes a pair of the attempt's header and this one
  pairs : s.phase ≡ Close false → matches s.attempt h ≡ true → Paired s.plan (heads (judged_by s.phase))
  pairs f m =
      let x : Shown s.plan s.attempt hs = in_phase_lem (Close false) f in
      let g = eqb-true h.generation s.attempt.generation (and_left _ (same_last h.last s.attempt.last) m) in
      let l = and_right (eqb h.generation s.attempt.generation) _ m in
      let e = closing_seen (ap closing_by f) in
      subst (Paired s.plan) (same_heads (Close false) f)
      (record {
        before = x.before;
        opening = x.opening;
        closing = k.bytes;
        is = ap (λ (y : List (List ℕ)). y ++ k.bytes ∷ []) x.is ∙ append_assoc x.before (x.opening ∷ []) (k.bytes ∷ []);
        generation = sym (ap (λ (y : Seen). y.generation) e) ∙ g ∙ x.generation;
        last = rw (e, x.last) at l;
      })

  -- after a move
  abbrev After : Move → Type 0
  After m = At (makes s h m).state.phase (makes s h m).state (heads (judged_by s.phase))

  opens : (next : Bool) → judged_by s.phase ≡ true → h ≡ seen_of s.plan k.bytes → After (Open next)
  unfolding makes
  opens next j e =
      at_chunks 1 (area_last s.plan h.last) _ (heads (judged_by s.phase))
      (record {
        before = hs;
        opening = k.bytes;
        is = ap heads j;
        generation = ap (λ (x : Seen). x.generation) e;
        last = ap (λ (x : Seen). x.last) e;
      })

  -- a chunk leaves the attempt's header the last one
  still_shown : (at : ℕ) → s.phase ≡ Chunk at → Shown s.plan s.attempt (heads (judged_by s.phase))
  still_shown at f = subst (Shown s.plan s.attempt) (sym (append-nil hs) ∙ same_heads (Chunk at) f) (in_phase_lem (Chunk at) f)

  moved : refusal_of s k.ok (length k.bytes) k.copy ≡ success → After (move_of s k.ok h)
  unfolding makes
  moved t = move_cases After s k.ok h (record {
    fail = λ e l t. tt;
    short = λ e g t c l. tt;
    first = λ f o. opens false (ap judged_by f) (opening_seen t f o);
    again = λ c l r. opens true (closing_is s.phase c).judged (closing_seen c);
    more = λ at f y. at_chunks _ _ _ _ (still_shown at f);
    skip = λ at f n. still_shown at f;
    acknowledge = λ f m p. pairs f m;
    stand = λ f m n. tt;
    done = λ f y. tt;
  })

  -- a step keeps it
  step_at_lem : At (step_by s k).state.phase (step_by s k).state (hs ++ judged s k)
  step_at_lem =
      same_or_not (refusal_of s k.ok (length k.bytes) k.copy) success
      (λ r. rw (taken_step s k.ok k.bytes k.copy r, r) (moved r))
      (λ r. rw (refused_step s k.ok k.bytes k.copy r, ne_eqb _ success r) (unjudged (judged_by s.phase)))
    where
      unjudged : (t : Bool) → At s.phase s (hs ++ pick (t && false) (k.bytes ∷ []) [])
      unjudged true = subst (At s.phase s) (sym (append-nil hs)) i
      unjudged false = subst (At s.phase s) (sym (append-nil hs)) i

  -- ---- a success

  module _ (e : Finish) (y : good e.ending ≡ true) where
    abbrev Pairs : Move → Type 0
    Pairs m = (makes s h m).next ≡ Ends e → Paired s.plan (heads (judged_by s.phase))

    not_so : (x : Ending) (next : Bool) → good x ≡ false → Pairs (End x next)
    unfolding makes
    not_so x next l q = clash (ap good (ending_of q) ∙ y) l

    success_paired : (step_by s k).next ≡ Ends e → Paired s.plan (hs ++ judged s k)
    unfolding makes
    success_paired q =
        same_or_not (refusal_of s k.ok (length k.bytes) k.copy) success
        (λ r.
        rw r
        (move_cases Pairs s k.ok h (record {
          fail = λ x l t. not_so x false l;
          short = λ x l t c m. not_so x true l;
          first = λ f r x. not_sent x;
          again = λ c l r x. not_sent x;
          more = λ at f z x. not_sent x;
          skip = λ at f n x. not_sent x;
          acknowledge = λ f m p x. not_sent x;
          stand = λ f m n x. pairs f m;
          done = λ f z x. subst (Paired s.plan) (sym (append-nil hs) ∙ same_heads Ack f) (in_phase_lem Ack f);
        })
        (rw (taken_step s k.ok k.bytes k.copy r) at q)))
        (λ r. not_refusal (rw (refused_step s k.ok k.bytes k.copy r) at q))

-- ---- whole runs

run_at : (ks : List Completion) (s : Collection) (hs : List (List ℕ)) → At s.phase s hs → At (after s ks).phase (after s ks) (hs ++ headers_of s ks)
unfolding after headers_of
run_at [] s hs i = subst (At s.phase s) (sym (append-nil hs)) i
run_at (k ∷ ks) s hs i =
    let t : Collection = after (step_by s k).state ks in
    subst (At t.phase t) (append_assoc hs (judged s k) (headers_of (step_by s k).state ks)) (run_at ks (step_by s k).state (hs ++ judged s k) (step_at_lem s k hs i))

headers_append : (s : Collection) (ks : List Completion) (k : Completion) → headers_of s (ks ++ k ∷ []) ≡ headers_of s ks ++ judged (after s ks) k
unfolding after headers_of
headers_append s [] k = append-nil (judged s k)
headers_append s (j ∷ ks) k =
    ap (λ (hs : List (List ℕ)). judged s j ++ hs) (headers_append (step_by s j).state ks k)
    ∙ sym (append_assoc (judged s j) (headers_of (step_by s j).state ks) (judged (after (step_by s j).state ks) k))

module _ (p : Plan) (ks : List Completion) (e : setup_answer p ≡ success) where
  so_far : At (state_of p ks).phase (state_of p ks) (headers_of (setup_of p).state ks)
  so_far = run_at ks (setup_of p).state [] (rw (setup_taken p e) tt)

  same_plan : (state_of p ks).plan ≡ p
  same_plan = plan_stays (setup_of p).state ks ∙ rw (setup_taken p e)

  -- Of the headers that a run judged up to its success, the last two show the same generation and the same four last blocks: the attempt's own and the closing one.
  pub success_headers : (k : Completion) (x : Finish) → (step_by (state_of p ks) k).next ≡ Ends x → good x.ending ≡ true → Paired p (headers_of (setup_of p).state (ks ++ k ∷ []))
  success_headers k x q y =
      subst (Paired p) (sym (headers_append (setup_of p).state ks k))
      (subst (λ (r : Plan). Paired r (headers_of (setup_of p).state ks ++ judged (state_of p ks) k)) same_plan
      (success_paired (state_of p ks) k (headers_of (setup_of p).state ks) so_far x y q))

  -- And so it is as soon as the acknowledgement is awaited.
  pub standing_headers : (state_of p ks).phase ≡ Ack → Paired p (headers_of (setup_of p).state ks)
  standing_headers a =
      subst (λ (r : Plan). Paired r (headers_of (setup_of p).state ks)) same_plan
      (subst (λ (f : Phase). At f (state_of p ks) (headers_of (setup_of p).state ks)) a so_far)
