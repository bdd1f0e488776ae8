-- The count is the length of the run's record, for any completions at all, and an ending says it.
-- Assumes nothing.
use Rattle.std.specs.Prelude.{ℕ, ◌+◌, ◌≡◌, refl, List, [], ◌∷◌, Bool, length}
use Rattle.std.proofs.Common.{◌∙◌, arith, length-append}
use Rattle.answers.specs.Answers.{success}
use Rattle.words.specs.declared.Words.{Words}
use Rattle.plans.specs.declared.Plan.{Plan}
use Rattle.completions.specs.declared.Seen.{Seen}
use Rattle.judgement.specs.declared.Move.{Move}
use Rattle.judgement.specs.declared.Move.TheVariants.{End, Open, More, Skip, Acknowledge}
use Rattle.plans.specs.Plans.{setup_answer}
use Rattle.collection.specs.Collection.{refusal_of, look_of, move_of, setup_of, step_of}
use Rattle.collection.specs.Steps.{makes, setup_taken, setup_refused, refused_step, taken_step}
use Rattle.choices.specs.Tests.{same_or_not}
use Rattle.collection.specs.declared.Collection.{Collection}
use Rattle.collection.specs.declared.Finish.{Finish}
use Rattle.collection.specs.declared.Next.TheVariants.{Send, End as Ends}
use Rattle.collection.specs.Told.{Next}
use Rattle.collection.specs.Told.{Stepped}
use Rattle.runs.specs.Run.{Completion, step_by, given, after, play, state_of, record_of}

-- what a step keeps: the plan, the count of commands given, and that an ending says the count
pub record Counts (s : Collection) (x : Stepped) : Type 0 where
  pub plan : x.state.plan ≡ s.plan
  pub count : x.state.count ≡ s.count + length (given x.next)
  pub ending : (e : Finish) → x.next ≡ Ends e → e.count ≡ s.count

clashes : {A : Type 0} {w : Words} {e : Finish} → ◌≡◌ {A = Next} (Send w) (Ends e) → A
clashes q = let z : ◌≡◌ {A = ℕ} 0 1 = cc in absurd (omega arith)

act_counts : (s : Collection) (h : Seen) (m : Move) → Counts s (makes s h m)
unfolding makes
act_counts s h (End x next) = record { plan = refl; count = omega arith; ending = λ e q. cc }
act_counts s h (Open next) = record { plan = refl; count = refl; ending = λ e q. clashes q }
act_counts s h (More at) = record { plan = refl; count = refl; ending = λ e q. clashes q }
act_counts s h Skip = record { plan = refl; count = refl; ending = λ e q. clashes q }
act_counts s h Acknowledge = record { plan = refl; count = refl; ending = λ e q. clashes q }

pub step_counts : (s : Collection) (ok : Bool) (d : List ℕ) (n : ℕ) → Counts s (step_of s ok d n)
step_counts s ok d n =
    same_or_not (refusal_of s ok (length d) n) success
    (λ r. rw (taken_step s ok d n r) (act_counts s (look_of s d) (move_of s ok (look_of s d))))
    (λ r. rw (refused_step s ok d n r) (record { plan = refl; count = omega arith; ending = λ e q. let z : ◌≡◌ {A = ℕ} 0 1 = cc in absurd (omega arith) }))

pub play_counts : (s : Collection) (ks : List Completion) → (after s ks).count ≡ s.count + length (play s ks)
unfolding after play
play_counts s [] = omega arith
play_counts s (k ∷ ks) =
    let c = (step_counts s k.ok k.bytes k.copy).count in
    let i = play_counts (step_by s k).state ks in
    let l = length-append (given (step_by s k).next) (play (step_by s k).state ks) in
    omega arith

pub plan_stays : (s : Collection) (ks : List Completion) → (after s ks).plan ≡ s.plan
unfolding after
plan_stays s [] = refl
plan_stays s (k ∷ ks) = plan_stays (step_by s k).state ks ∙ (step_counts s k.ok k.bytes k.copy).plan

setup_counts : (p : Plan) → (setup_of p).state.count ≡ length (given (setup_of p).next)
setup_counts p =
    same_or_not (setup_answer p) success
    (λ e. rw (setup_taken p e))
    (λ e. rw (setup_refused p e))

-- The count is the length of the run's record, for any plan and any completions; a refused setup has neither.
pub count_is_record : (p : Plan) (ks : List Completion) → (state_of p ks).count ≡ length (record_of p ks)
count_is_record p ks =
    let l = length-append (given (setup_of p).next) (play (setup_of p).state ks) in
    omega (arith, play_counts (setup_of p).state ks, setup_counts p)

-- The answer that ends a run gives that number.
pub ending_says_count : (p : Plan) (ks : List Completion) (k : Completion) (e : Finish) → (step_by (state_of p ks) k).next ≡ Ends e
    → e.count ≡ length (record_of p ks)
ending_says_count p ks k e q =
    (step_counts (state_of p ks) k.ok k.bytes k.copy).ending e q ∙ count_is_record p ks
