-- The acknowledgement of a run, whatever completes its commands: RAE 0 is in the run's record exactly where the acknowledgement was sent, and
-- then in its last command alone. A success on 08h comes after one that was completed with success.
-- Assumes nothing.
use Rattle.std.specs.Prelude.{◌≡◌, refl, List, [], ◌∷◌, ◌++◌, Bool, true, false, not, length}
use Rattle.std.proofs.Common.{ap, subst, ◌∙◌, arith, eq-eqb}
use Rattle.choices.specs.Tests.{by_test, clash, same_or_not}
use Rattle.answers.specs.Answers.{success}
use Rattle.copies.specs.Parts.{zeros}
use Rattle.pages.specs.Pages.{host_page, controller_page, most4}
use Rattle.words.specs.declared.Command.{Command}
use Rattle.words.specs.declared.Words.{Words}
use Rattle.words.specs.Words.{read_of}
use Rattle.plans.specs.declared.Plan.{Plan}
use Rattle.phases.specs.declared.Phase.TheVariants.{First, Ack}
use Rattle.phases.specs.Awaited.{asks_rae}
use Rattle.phases.specs.Phases.{ack_by}
use Rattle.plans.specs.Plans.{setup_answer}
use Rattle.completions.specs.declared.Seen.{Seen}
use Rattle.judgement.specs.declared.Move.{Move}
use Rattle.judgement.specs.declared.Move.TheVariants.{End, Open, More, Skip, Acknowledge}
use Rattle.turns.specs.Turns.{good}
use Rattle.collection.specs.Collection.{awaited_of, refusal_of, look_of, move_of, beginning, setup_of}
use Rattle.collection.specs.Copied.{not_sent, not_refusal, ending_of}
use Rattle.collection.specs.Laws.{move_cases}
use Rattle.collection.specs.Steps.{makes, setup_taken, refused_step, taken_step}
use Rattle.collection.specs.declared.Collection.{Collection}
use Rattle.collection.specs.declared.Finish.{Finish}
use Rattle.collection.specs.Told.{Next}
use Rattle.collection.specs.declared.Next.TheVariants.{Send, End as Ends, Refuse}
use Rattle.runs.specs.Run.{Completion, step_by, given, after, play, state_of, record_of}
use Rattle.runs.specs.Counted.{plan_stays}
use Rattle.runs.specs.Bound.{Reached}
use Rattle.runs.proofs.Bound.{step_house, begins}
use Rattle.runs.specs.Retained.{All, Retains}
use Rattle.runs.proofs.Retained.{given_reads, awaited_reads, play_silent, rae_all_on_host}
use Rattle.runs.specs.Acknowledged.{acknowledges, Acknowledged, Rae, ByAcknowledgement}

-- ---- one command more

rae_front : (t : Bool) (w v : Words) (ws : List Words) → Retains w → Rae t (v ∷ ws) → Rae t (w ∷ v ∷ ws)
rae_front true w v ws r a = record {
  before = w ∷ a.before;
  last = a.last;
  is = ap (λ (x : List Words). w ∷ x) a.is;
  retains = (r, a.retains);
  clears = a.clears;
}
rae_front false w v ws r a = (r, a)

-- the last command sent has RAE 1 unless the acknowledgement is awaited
rae_one : (t : Bool) (w : Words) → (read_of true w).rae ≡ not t → Rae t (w ∷ [])
rae_one true w e = record { before = []; last = w; is = refl; retains = tt; clears = e }
rae_one false w e = (e, tt)

-- a step that gives no command does not bring the acknowledgement
act_quiet : (s : Collection) (h : Seen) (m : Move) → given (makes s h m).next ≡ [] → ack_by (makes s h m).state.phase ≡ false
unfolding makes
act_quiet s h (End e next) q = refl
act_quiet s h (Open next) q = absurd (omega (arith, ap (λ (ws : List Words). length ws) q))
act_quiet s h (More at) q = absurd (omega (arith, ap (λ (ws : List Words). length ws) q))
act_quiet s h Skip q = absurd (omega (arith, ap (λ (ws : List Words). length ws) q))
act_quiet s h Acknowledge q = absurd (omega (arith, ap (λ (ws : List Words). length ws) q))

step_quiet : (s : Collection) (k : Completion) → given (step_by s k).next ≡ [] → ack_by s.phase ≡ false → ack_by (step_by s k).state.phase ≡ false
step_quiet s k q a =
    same_or_not (refusal_of s k.ok (length k.bytes) k.copy) success
    (λ r.
    let t = taken_step s k.ok k.bytes k.copy r in
    rw t (act_quiet s (look_of s k.bytes) (move_of s k.ok (look_of s k.bytes)) (rw t at q)))
    (λ r. rw (refused_step s k.ok k.bytes k.copy r) a)

-- ---- runs

-- w being the last command sent, of it and those that follow it
rae_on : (s : Collection) (k : Completion) (ks : List Completion) (w : Words) → Reached most4 s → ack_by s.phase ≡ false → Retains w
    → ((v : Words) → (read_of true v).rae ≡ not (ack_by (step_by s k).state.phase) → Rae (acknowledges (step_by s k).state ks) (v ∷ play (step_by s k).state ks))
    → (n : Next) → (step_by s k).next ≡ n → Rae (acknowledges (step_by s k).state ks) (w ∷ given n ++ play (step_by s k).state ks)
rae_on s k ks w r a e rest (Send v) q =
    rae_front (acknowledges (step_by s k).state ks) w v (play (step_by s k).state ks) e
    (rest v
    (ap (λ (c : Command). c.rae) (given_reads s k v r q)
    ∙ asks_rae (step_by s k).state.phase (step_by s k).state.plan (step_by s k).state.attempt.last))
rae_on s k ks w r a e rest (Ends x) q = rest w (rw (step_quiet s k (rw q) a) e)
rae_on s k ks w r a e rest (Refuse n) q = rest w (rw (step_quiet s k (rw q) a) e)

rae_chain : (s : Collection) (ks : List Completion) (w : Words) → Reached most4 s → (read_of true w).rae ≡ not (ack_by s.phase)
    → Rae (acknowledges s ks) (w ∷ play s ks)
unfolding acknowledges play
rae_chain s [] w r e = rae_one (ack_by s.phase) w e
rae_chain s (k ∷ ks) w r e =
    by_test (ack_by s.phase)
    (λ a. rw (a, play_silent s (k ∷ ks) (rw a)) (rae_one true w (rw a at e)))
    (λ a. rw a (rae_on s k ks w r a (rw a at e) (λ v q. rae_chain (step_by s k).state ks v (step_house s k r) q) (step_by s k).next refl))

module _ (p : Plan) (ks : List Completion) (e : setup_answer p ≡ success) where
  rae_all : Rae (acknowledges (setup_of p).state ks) (record_of p ks)
  rae_all =
      let r : Reached most4 (beginning p First 1) = rw (setup_taken p e) at (begins most4 p e) in
      rw (setup_taken p e)
      (rae_chain (beginning p First 1) ks (awaited_of (beginning p First 1)) r
      (ap (λ (c : Command). c.rae) (awaited_reads (beginning p First 1) r refl) ∙ asks_rae First p (zeros 4)))

  -- Where the acknowledgement was sent, the last command has RAE 0 and all others RAE 1;
  pub rae_last_alone : acknowledges (setup_of p).state ks ≡ true → Acknowledged (record_of p ks)
  rae_last_alone a = rw a at rae_all

  -- where it was not, all have RAE 1.
  pub rae_all_without : acknowledges (setup_of p).state ks ≡ false → All Retains (record_of p ks)
  rae_all_without a = rw a at rae_all

  -- On 07h it is never sent.
  pub host_never : p.page ≡ host_page → acknowledges (setup_of p).state ks ≡ false
  host_never h =
      by_test (acknowledges (setup_of p).state ks)
      (λ a.
      let k = rae_last_alone a in
      clash (all_last Retains k.before k.last (subst (λ (ws : List Words). All Retains ws) k.is (rae_all_on_host p ks e h))) k.clears)
      (λ a. a)
    where
      all_last : (P : Words → Type 0) (ws : List Words) (w : Words) → All P (ws ++ w ∷ []) → P w
      all_last P [] w a = a.0
      all_last P (v ∷ ws) w a = all_last P ws w a.1

-- ---- a success on 08h

-- it is given for an acknowledgement that was completed with success
abbrev Asked : Collection → Bool → Finish → Seen → Move → Type 0
Asked s ok e h m = (makes s h m).next ≡ Ends e → (s.phase ≡ Ack) × (ok ≡ true)

asked : (s : Collection) (ok : Bool) (e : Finish) (h : Seen) → good e.ending ≡ true → s.plan.page ≡ controller_page → Asked s ok e h (move_of s ok h)
unfolding makes
asked s ok e h y c = move_cases (Asked s ok e h) s ok h (record {
  fail = λ x l t q. clash (ap good (ending_of q) ∙ y) l;
  short = λ e g t f l q. clash (ap good (ending_of q) ∙ y) g;
  first = λ f l q. not_sent q;
  again = λ f l r q. not_sent q;
  more = λ at f y q. not_sent q;
  skip = λ at f n q. not_sent q;
  acknowledge = λ f m p q. not_sent q;
  stand = λ f m n q. clash (eq-eqb s.plan.page controller_page c) n;
  done = λ f k q. (f, k);
})

pub step_success : (s : Collection) (k : Completion) (e : Finish) → (step_by s k).next ≡ Ends e → good e.ending ≡ true → s.plan.page ≡ controller_page
    → (s.phase ≡ Ack) × (k.ok ≡ true)
step_success s k e q y c =
    same_or_not (refusal_of s k.ok (length k.bytes) k.copy) success
    (λ r. asked s k.ok e (look_of s k.bytes) y c (rw (taken_step s k.ok k.bytes k.copy r) at q))
    (λ r. not_refusal (rw (refused_step s k.ok k.bytes k.copy r) at q))

-- it was sent where it is awaited, and where it was sent later
pub sent_here : (s : Collection) (ks : List Completion) → ack_by s.phase ≡ true → acknowledges s ks ≡ true
unfolding acknowledges
sent_here s [] a = a
sent_here s (k ∷ ks) a = rw a

pub sent_later : (s : Collection) (k : Completion) (ks : List Completion) → acknowledges (step_by s k).state ks ≡ true → acknowledges s (k ∷ ks) ≡ true
unfolding acknowledges
sent_later s k ks a = by_test (ack_by s.phase) (λ e. rw e) (λ e. rw e a)

sent_now : (s : Collection) (ks : List Completion) → ack_by (after s ks).phase ≡ true → acknowledges s ks ≡ true
unfolding after
sent_now s [] a = sent_here s [] a
sent_now s (k ∷ ks) a = sent_later s k ks (sent_now (step_by s k).state ks a)

-- A success on 08h comes only when the acknowledgement, the last command sent and the only one with RAE 0, is completed with success.
pub success_acknowledged : (p : Plan) (ks : List Completion) (k : Completion) (e : Finish) → setup_answer p ≡ success → p.page ≡ controller_page
    → (step_by (state_of p ks) k).next ≡ Ends e → good e.ending ≡ true → ByAcknowledgement p ks k
success_acknowledged p ks k e s c q y =
    let g : (state_of p ks).plan ≡ p = plan_stays (setup_of p).state ks ∙ rw (setup_taken p s) in
    let a = step_success (state_of p ks) k e q y (rw g c) in
    record {
      awaited = a.0;
      completed = a.1;
      last = rae_last_alone p ks s (sent_now (setup_of p).state ks (rw a.0));
    }
