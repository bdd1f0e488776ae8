-- A run with its copy, which nobody else writes between the steps: what each byte of it is after any completions at all, from a drive that
-- lies as well as from one that doesn't.
-- Assumes nothing.
use Prim.Native.Nat.{ℕ, ◌+◌, ◌-◌, ◌*◌, ◌≤◌, ◌<◌}
use Rattle.std.specs.Prelude.{◌≡◌, Bool, take, drop, leb}
use Rattle.std.proofs.Math.Path.{refl, ap}
use Rattle.std.proofs.Common.{sym, subst, ◌∙◌, arith, zero-add, length-append, drop_of_length-le, drop-drop, take_at, drop_at, leb-true, leb-false}
use mathlib.Core.List.{List, [], ◌∷◌, ◌++◌, append_assoc, append-nil}
use Rattle.std.proofs.Math.Bool.{true, false}
use Rattle.std.proofs.Math.ListN.{length}
use Rattle.choices.specs.Choice.{pick_cases, larger_left, larger_right}
use Rattle.choices.specs.Tests.{by_test, clash, same_or_not}
use Rattle.copies.specs.Lists.{drop-append}
use Rattle.copies.specs.Parts.{zeros, put, put_fits}
use Rattle.answers.specs.Answers.{success}
use Rattle.pages.specs.Pages.{controller_page, block, most4}
use Rattle.plans.specs.declared.Plan.{Plan}
use Rattle.phases.specs.declared.Phase.{Phase}
use Rattle.phases.specs.declared.Phase.TheVariants.{First, Chunk, Close, Ack, Ended}
use Rattle.phases.specs.Chunks.{chunk_inside, chunk_full, chunk_short}
use Rattle.phases.specs.Phases.{ended_by, closing_is}
use Rattle.plans.specs.Plans.{setup_answer, area_last, area_bytes, chunk_of}
use Rattle.phases.specs.Asked.{chunk_in, chunk_blocks, phase_at}
use Rattle.completions.specs.declared.Seen.{Seen}
use Rattle.touches.specs.Touched.{zeros_from, touched, zeros_after, zeros_all}
use Rattle.endings.specs.declared.Ending.{Ending}
use Rattle.endings.specs.declared.Ending.TheVariants.{Success}
use Rattle.judgement.specs.declared.Move.{Move}
use Rattle.judgement.specs.declared.Move.TheVariants.{End, Open, More, Skip, Acknowledge}
use Rattle.judgement.specs.Judgement.{newer_than}
use Rattle.turns.specs.Turns.{good}
use Rattle.collection.specs.Collection.{expected_of, look_of, refusal_of, move_of, refuses, setup_of, step_of}
use Rattle.collection.specs.Copied.{area_within, copy_length, chunk_length, chunk_copy}
use Rattle.collection.specs.Laws.{move_cases, not_refused}
use Rattle.collection.specs.Steps.{makes, touches, setup_taken, refused_step, refused_copy, taken_step, taken_copy}
use Rattle.collection.specs.declared.Collection.{Collection}
use Rattle.collection.specs.declared.Finish.{Finish}
use Rattle.collection.specs.Told.{Next}
use Rattle.collection.specs.declared.Next.TheVariants.{Send, End as Ends, Refuse}
use Rattle.runs.specs.Run.{after, state_of, record_of}
use Rattle.runs.specs.Counted.{step_counts}
use Rattle.runs.specs.Bound.{Reached}
use Rattle.runs.proofs.Bound.{step_house, begins}
use Rattle.runs.proofs.Retained.{at_no_ack}
use Rattle.runs.specs.Acknowledged.{Acknowledged, acknowledges}
use Rattle.runs.proofs.Acknowledged.{sent_here, sent_later, step_success, rae_last_alone}
use Rattle.runs.specs.Held.{Reply, lent, lent_all, Held, ended, onto, attempts_by, step_with, held_on, held_after, held_of, newest, laid, longest, Stood, Over, Going}

-- ---- data laid over a copy

put_on : (x d y : List ℕ) (n : ℕ) → length x ≡ n → put (x ++ drop n d) n y ≡ (x ++ y) ++ drop (n + length y) d
put_on x d y n e =
    ap (λ (l : List ℕ). l ++ (y ++ drop (n + length y) (x ++ drop n d))) (take_at x (drop n d) n e)
    ∙ ap (λ (l : List ℕ). x ++ (y ++ l))
    (sym (drop-drop (length y) n (x ++ drop n d)) ∙ ap (λ (l : List ℕ). drop (length y) l) (drop_at x (drop n d) n e) ∙ drop-drop (length y) n d)
    ∙ sym (append_assoc x y (drop (n + length y) d))

-- a chunk put right behind the attempt's data is added to it
laid_onto : (copy d : List ℕ) (gs : List (List ℕ)) (n : ℕ) → length (newest gs) ≡ n → put (laid copy gs) n d ≡ laid copy (onto d gs)
laid_onto copy d [] n e =
    subst (λ (i : ℕ). put copy i d ≡ d ++ drop (length d) copy) e (ap (λ (i : ℕ). d ++ drop i copy) (zero-add (length d)))
laid_onto copy d (g ∷ gs) n e =
    subst (λ (i : ℕ). put (g ++ drop (length g) (laid copy gs)) i d ≡ laid copy ((g ++ d) ∷ gs)) e
    (put_on g (laid copy gs) d (length g) refl
    ∙ ap (λ (i : ℕ). (g ++ d) ++ drop i (laid copy gs)) (sym (length-append g d)))

onto_length : (d : List ℕ) (gs : List (List ℕ)) → length (newest (onto d gs)) ≡ length (newest gs) + length d
onto_length d [] = omega arith
onto_length d (g ∷ gs) = length-append g d

-- the last attempt's data are the copy's first bytes
laid_front : (copy : List ℕ) (gs : List (List ℕ)) (n : ℕ) → length (newest gs) ≡ n → take n (laid copy gs) ≡ newest gs
laid_front copy [] n e = take_at [] copy n e
laid_front copy (g ∷ gs) n e = take_at g (drop (length g) (laid copy gs)) n e

-- past what any attempt gathered the copy is as it was
laid_past : (copy : List ℕ) (gs : List (List ℕ)) (n : ℕ) → longest gs ≤ n → drop n (laid copy gs) ≡ drop n copy
laid_past copy [] n l = refl
laid_past copy (g ∷ gs) n l =
    let a = larger_left (length g) (longest gs) in
    let b = larger_right (length g) (longest gs) in
    drop-append n g (drop (length g) (laid copy gs))
    ∙ ap (λ (x : List ℕ). x ++ drop (n - length g) (drop (length g) (laid copy gs))) (drop_of_length-le g {i = n} (omega arith))
    ∙ drop-drop (n - length g) (length g) (laid copy gs)
    ∙ ap (λ (i : ℕ). drop i (laid copy gs)) (let e : length g + (n - length g) ≡ n = omega arith in e)
    ∙ laid_past copy gs n (omega arith)

-- ---- what holds of a run so far, its copy at the beginning being first

-- how long the last attempt's data are, by what is awaited: after a refused chunk or an ending nobody says
abbrev Sized : Phase → Plan → List ℕ → ℕ → Type 0
Sized First p last n = Unit
Sized (Chunk at) p last n = n ≡ block * (at - 1)
Sized (Close true) p last n = Unit
Sized (Close false) p last n = n ≡ area_bytes p last
Sized Ack p last n = n ≡ area_bytes p last
Sized Ended p last n = Unit

-- either of the two, by the state, with the attempt's data as long as they should be
record Kept (p : Plan) (first : List ℕ) (h : Held) : Type 0 where
  sized : Sized h.state.phase p h.state.attempt.last (length (newest h.attempts))
  going : ended_by h.state.phase ≡ false → Going first h
  over : ended_by h.state.phase ≡ true → Over p h

-- the invariant
record Holds (p : Plan) (first : List ℕ) (h : Held) : Type 0 where
  reached : Reached most4 h.state
  plan : h.state.plan ≡ p
  room : length h.copy ≡ p.room
  kept : Kept p first h

-- the attempt's data where the chunk at a block is awaited next, or the closing header
sized_at : (p : Plan) (last : List ℕ) (at n : ℕ) → (at ≤ area_last p last → n ≡ block * (at - 1)) → (area_last p last < at → n ≡ area_bytes p last)
    → Sized (phase_at at (area_last p last)) p last n
unfolding phase_at
sized_at p last at n e f =
    pick_cases (λ (g : Phase). Sized g p last n) (leb at (area_last p last)) (λ l. e (leb-true at (area_last p last) l)) (λ l. f (leb-false at (area_last p last) l))

-- a whole chunk fills the attempt's data up to the next one, and a shorter one up to the area's end
filled : (c at n d : ℕ) → 1 ≤ at → n ≡ block * (at - 1) → d ≡ block * c → n + d ≡ block * (at + c - 1)
filled c at n d l e f = omega arith

full : (at b n d : ℕ) → 1 ≤ at → at ≤ b → n ≡ block * (at - 1) → d ≡ block * (b - at + 1) → n + d ≡ block * b
full at b n d l m e f = omega arith

at_going : (at b : ℕ) → ended_by (phase_at at b) ≡ false
unfolding phase_at
at_going at b = pick_cases (λ (f : Phase). ended_by f ≡ false) (leb at b) (λ e. refl) (λ e. refl)

-- ---- one completion more

-- a move is made
abbrev held_made : Held → Reply → Seen → Move → Held
held_made h k w m = record {
  state = (makes h.state w m).state;
  copy = touched (touches h.state m) k.bytes h.copy;
  attempts = attempts_by h.state.phase k (makes h.state w m) h.attempts;
  endings = h.endings ++ ended (makes h.state w m).next;
}

module _ (p : Plan) (first : List ℕ) (h : Held) (k : Reply) (w : Seen) (i : Holds p first h) (g : Going first h)
    (r : refusal_of h.state k.ok (length k.bytes) (length h.copy) ≡ success) where
  -- a command is given and the copy stays
  goes : (m : Move) → ended_by (makes h.state w m).state.phase ≡ false → ended (makes h.state w m).next ≡ []
      → touched (touches h.state m) k.bytes h.copy ≡ laid first (held_made h k w m).attempts
      → Sized (makes h.state w m).state.phase p (makes h.state w m).state.attempt.last (length (newest (held_made h k w m).attempts))
      → Kept p first (held_made h k w m)
  goes m e n c z = record {
    sized = z;
    going = λ x. record { none = rw (g.none, n); copy = c };
    over = λ x. clash x e;
  }

  fails : (e : Ending) (next : Bool) → good e ≡ false → Kept p first (held_made h k w (End e next))
  unfolding makes touches touched
  fails e next l = record {
    sized = tt;
    going = λ x. clash {t = true} refl x;
    over = λ x. record {
      finish = record { ending = e; count = h.state.count };
      once = rw g.none;
      stood = λ y. clash y l;
      cleared = λ y. rw l (zeros_all h.copy ∙ ap zeros i.room);
    };
  }

  -- the area, all of which the attempt's data fill, stands
  stands : (e : Ending) → good e ≡ true → attempts_by h.state.phase k (makes h.state w (End e false)) h.attempts ≡ h.attempts
      → length (newest h.attempts) ≡ area_bytes p h.state.attempt.last → Kept p first (held_made h k w (End e false))
  unfolding makes touches touched
  stands e l a z = record {
    sized = tt;
    going = λ x. clash {t = true} refl x;
    over = λ x. record {
      finish = record { ending = e; count = h.state.count };
      once = rw g.none;
      stood = λ y. record { size = rw a z; copy = rw (l, a) copied };
      cleared = λ y. clash l y;
    };
  }
    where
      area : ℕ
      area = area_bytes h.state.plan h.state.attempt.last

      within : area ≤ length h.copy
      within = area_within h.state k.ok (length k.bytes) (length h.copy) r

      size : length (newest h.attempts) ≡ area
      size = rw i.plan z

      copied : zeros_from h.copy area ≡ newest h.attempts ++ zeros (p.room - length (newest h.attempts))
      copied =
          zeros_after h.copy area within
          ∙ ap (λ (l : List ℕ). l ++ zeros (length h.copy - area)) (ap (λ (l : List ℕ). take area l) g.copy ∙ laid_front first h.attempts area size)
          ∙ rw (i.room, size)

  opens : (next : Bool) → attempts_by h.state.phase k (makes h.state w (Open next)) h.attempts ≡ [] ∷ h.attempts
      → Kept p first (held_made h k w (Open next))
  unfolding makes touches touched
  opens next a =
      goes (Open next) (at_going 1 (area_last h.state.plan w.last)) refl (rw a g.copy) (rw (a, i.plan) (sized_at p w.last 1 0 (λ l. omega arith) (λ l. omega arith)))

  more : (at : ℕ) → h.state.phase ≡ Chunk at → k.ok ≡ true → Kept p first (held_made h k w (More at))
  unfolding makes touches touched expected_of
  more at f y =
      let c = (chunk_copy h.state at k.bytes h.copy f (rw y at r)).0 in
      let z : length (newest h.attempts) ≡ block * (at - 1) = rw f at i.kept.sized in
      let x = chunk_in h.state.plan k.bytes in
      let d : length (chunk_in p k.bytes) ≡ block * chunk_blocks (chunk_of p) at (area_last p h.state.attempt.last) =
      rw i.plan at (chunk_length h.state at k.bytes (length h.copy) f (rw y at r)) in
      let n = chunk_inside p h.state.attempt.last at (rw (f, i.plan) at i.reached.inside) in
      let s = onto_length (chunk_in p k.bytes) h.attempts in
      goes (More at) (at_going (at + chunk_of h.state.plan) (area_last h.state.plan h.state.attempt.last)) refl
      (rw (f, y)
      (put_fits h.copy (block * (at - 1)) x c
      ∙ ap (λ (l : List ℕ). put l (block * (at - 1)) x) g.copy
      ∙ laid_onto first x h.attempts (block * (at - 1)) z))
      (rw (f, y, i.plan)
      (sized_at p h.state.attempt.last (at + chunk_of p) _
      (λ l.
      let e = chunk_full (chunk_of p) at (area_last p h.state.attempt.last) n.high (omega (arith, n.high)) in
      s ∙ filled (chunk_of p) at _ _ n.low z (d ∙ ap (λ (x : ℕ). block * x) (sym e)))
      (λ l.
      let e = chunk_short (chunk_of p) at (area_last p h.state.attempt.last) n.high (omega (arith, n.high)) in
      s ∙ full at _ _ _ n.low n.high z (d ∙ ap (λ (x : ℕ). block * x) (sym e)))))

  skip : (at : ℕ) → h.state.phase ≡ Chunk at → k.ok ≡ false → Kept p first (held_made h k w Skip)
  unfolding makes touches touched
  skip at f n = goes Skip refl refl (rw (f, n) g.copy) tt

  acknowledge : h.state.phase ≡ Close false → Kept p first (held_made h k w Acknowledge)
  unfolding makes touches touched
  acknowledge f = goes Acknowledge refl refl (rw f g.copy) (rw f (rw f at i.kept.sized))

  keeps : Kept p first (held_made h k w (move_of h.state k.ok w))
  unfolding makes
  keeps = move_cases (λ (m : Move). Kept p first (held_made h k w m)) h.state k.ok w (record {
    fail = λ e l t. fails e false l;
    short = λ e l t f u. fails e true l;
    first = λ f l. opens false (rw f);
    again = λ f l e. opens true (rw ((closing_is h.state.phase f).is, at_no_ack 1 (area_last h.state.plan w.last)));
    more = λ at f y. more at f y;
    skip = λ at f n. skip at f n;
    acknowledge = λ f m e. acknowledge f;
    stand = λ f m n. stands (Success false) refl (rw f) (rw f at i.kept.sized);
    done = λ f y. stands (Success (newer_than h.state.attempt w)) refl (rw f) (rw f at i.kept.sized);
  })

-- a refusal changes nothing
attempts_stay : (f : Phase) (k : Reply) (s : Collection) (n : ℕ) (gs : List (List ℕ)) → attempts_by f k (refuses s n) gs ≡ gs
attempts_stay First k s n gs = refl
attempts_stay (Chunk at) k s n gs = refl
attempts_stay (Close after) k s n gs = refl
attempts_stay Ack k s n gs = refl
attempts_stay Ended k s n gs = refl

pub refused_held : (h : Held) (k : Reply) → (refusal_of h.state k.ok (length k.bytes) (length h.copy) ≡ success → ⊥) → held_on h k ≡ h
refused_held h k r =
    rw (refused_step h.state k.ok k.bytes (length h.copy) r, refused_copy h.state k.ok k.bytes h.copy r)
    (rw (attempts_stay h.state.phase k h.state (refusal_of h.state k.ok (length k.bytes) (length h.copy)) h.attempts, append-nil h.endings) refl)

taken_held : (h : Held) (k : Reply) → refusal_of h.state k.ok (length k.bytes) (length h.copy) ≡ success
    → held_on h k ≡ held_made h k (look_of h.state k.bytes) (move_of h.state k.ok (look_of h.state k.bytes))
taken_held h k r = rw (taken_step h.state k.ok k.bytes (length h.copy) r, taken_copy h.state k.ok k.bytes h.copy r)

holds_on : (p : Plan) (first : List ℕ) (h : Held) (k : Reply) → Holds p first h → Holds p first (held_on h k)
holds_on p first h k i =
    same_or_not (refusal_of h.state k.ok (length k.bytes) (length h.copy)) success
    (λ r.
    let g = i.kept.going (not_refused h.state k.ok (length k.bytes) (length h.copy) r).going in
    record {
      reached = step_house h.state (lent (length h.copy) k) i.reached;
      plan = (step_counts h.state k.ok k.bytes (length h.copy)).plan ∙ i.plan;
      room = copy_length h.state k.ok k.bytes h.copy ∙ i.room;
      kept = rw (taken_held h k r) (keeps p first h k (look_of h.state k.bytes) i g r);
    })
    (λ r. rw (refused_held h k r) i)

holds_after : (p : Plan) (first : List ℕ) (h : Held) (ks : List Reply) → Holds p first h → Holds p first (held_after h ks)
unfolding held_after
holds_after p first h [] i = i
holds_after p first h (k ∷ ks) i = holds_after p first (held_on h k) ks (holds_on p first h k i)

holds_of : (p : Plan) (copy : List ℕ) (ks : List Reply) → setup_answer p ≡ success → length copy ≡ p.room → Holds p copy (held_of p copy ks)
holds_of p copy ks e l =
    holds_after p copy (record { state = (setup_of p).state; copy = copy; attempts = []; endings = [] }) ks
    (record {
      reached = begins most4 p e;
      plan = rw (setup_taken p e);
      room = l;
      kept = record {
        sized = rw (setup_taken p e) tt;
        going = λ x. record { none = refl; copy = refl };
        over = λ x. clash {t = true} refl (sym (rw (setup_taken p e) at x));
      };
    })

-- ---- the theorems, for a plan that setup takes, a copy of its room and any replies

-- the same finish, where one was given
abbrev head_or : Finish → List Finish → Finish
head_or x [] = x
head_or x (y ∷ ys) = y

same_finish : (x e : Finish) → ◌≡◌ {A = List Finish} (x ∷ []) (e ∷ []) → x ≡ e
same_finish x e q = ap (head_or x) q

module _ (p : Plan) (copy : List ℕ) (ks : List Reply) (e : setup_answer p ≡ success) (l : length copy ≡ p.room) where
  -- no completion changes the copy's length
  pub held_room : length (held_of p copy ks).copy ≡ p.room
  held_room = (holds_of p copy ks e l).room

  -- Before an ending no byte of the copy changes but for the good chunks': it is the copy at the beginning with each attempt's data laid over its front.
  pub going_copy : ended_by (held_of p copy ks).state.phase ≡ false → Going copy (held_of p copy ks)
  going_copy g = (holds_of p copy ks e l).kept.going g

  -- So its first bytes are the last attempt's data, and past what any attempt gathered it is as it was.
  pub going_front : ended_by (held_of p copy ks).state.phase ≡ false
      → take (length (newest (held_of p copy ks).attempts)) (held_of p copy ks).copy ≡ newest (held_of p copy ks).attempts
  going_front g = rw (going_copy g).copy (laid_front copy (held_of p copy ks).attempts _ refl)

  pub going_rest : ended_by (held_of p copy ks).state.phase ≡ false
      → drop (longest (held_of p copy ks).attempts) (held_of p copy ks).copy ≡ drop (longest (held_of p copy ks).attempts) copy
  going_rest g = rw (going_copy g).copy (laid_past copy (held_of p copy ks).attempts (longest (held_of p copy ks).attempts) (omega arith))

  -- A run that has ended gave one ending.
  pub ended_once : ended_by (held_of p copy ks).state.phase ≡ true → Over p (held_of p copy ks)
  ended_once g = (holds_of p copy ks e l).kept.over g

  over_with : (x : Finish) → (held_of p copy ks).endings ≡ x ∷ [] → (o : Over p (held_of p copy ks)) × (o.finish ≡ x)
  over_with x q =
      by_test (ended_by (held_of p copy ks).state.phase)
      (λ g. let o = ended_once g in (o, same_finish o.finish x (sym o.once ∙ q)))
      (λ g. let z = ap (λ (fs : List Finish). length fs) (sym (going_copy g).none ∙ q) in absurd (omega arith))

  -- After a success the copy is the data of the last attempt's chunks in order, which are as long as the wanted area of its header, and then zeros.
  pub success_copy : (x : Finish) → (held_of p copy ks).endings ≡ x ∷ [] → good x.ending ≡ true → Stood p (held_of p copy ks)
  success_copy x q y = let o = over_with x q in o.0.stood (rw o.1 y)

  -- After every other ending it is zeros.
  pub failure_copy : (x : Finish) → (held_of p copy ks).endings ≡ x ∷ [] → good x.ending ≡ false → (held_of p copy ks).copy ≡ zeros p.room
  failure_copy x q y = let o = over_with x q in o.0.cleared (rw o.1 y)

-- ---- such a run is one of those of specs/Run.antt

state_after_lem : (h : Held) (ks : List Reply) (n : ℕ) → length h.copy ≡ n → (held_after h ks).state ≡ after h.state (lent_all n ks)
unfolding held_after after
state_after_lem h [] n e = refl
state_after_lem h (k ∷ ks) n e =
    state_after_lem (held_on h k) ks n (copy_length h.state k.ok k.bytes h.copy ∙ e)
    ∙ ap (λ (i : ℕ). after (step_of h.state k.ok k.bytes i).state (lent_all n ks)) e

-- Its states are those of the run with the same completions, so all that is proved there holds of it.
pub held_state : (p : Plan) (copy : List ℕ) (ks : List Reply) → (held_of p copy ks).state ≡ state_of p (lent_all (length copy) ks)
held_state p copy ks = state_after_lem (record { state = (setup_of p).state; copy = copy; attempts = []; endings = [] }) ks (length copy) refl

-- an ending that was given stays the first
ending_stays : (h : Held) (ks : List Reply) (x : Finish) (xs : List Finish) → h.endings ≡ x ∷ xs → head_or x (held_after h ks).endings ≡ x
unfolding held_after
ending_stays h [] x xs q = rw q
ending_stays h (k ∷ ks) x xs q = ending_stays (held_on h k) ks x (xs ++ ended (step_with h k).next) (rw q)

-- a success on 08h was given for the acknowledgement, now or later
success_on : (h : Held) (k : Reply) (ks : List Reply) (n : ℕ) (x : Finish) → length h.copy ≡ n → h.state.plan.page ≡ controller_page → h.endings ≡ []
    → (held_after (held_on h k) ks).endings ≡ x ∷ [] → good x.ending ≡ true
    → ((held_on h k).endings ≡ [] → acknowledges (held_on h k).state (lent_all n ks) ≡ true)
    → (m : Next) → (step_with h k).next ≡ m → acknowledges h.state (lent_all n (k ∷ ks)) ≡ true
success_on h k ks n x l c z q y rest (Send w) e =
    sent_later h.state (lent n k) (lent_all n ks) (subst (λ (i : ℕ). acknowledges (step_of h.state k.ok k.bytes i).state (lent_all n ks) ≡ true) l (rest (rw (z, e))))
success_on h k ks n x l c z q y rest (Refuse r) e =
    sent_later h.state (lent n k) (lent_all n ks) (subst (λ (i : ℕ). acknowledges (step_of h.state k.ok k.bytes i).state (lent_all n ks) ≡ true) l (rest (rw (z, e))))
success_on h k ks n x l c z q y rest (Ends f) e =
    let g : x ≡ f = sym (ap (head_or f) q) ∙ ending_stays (held_on h k) ks f [] (rw (z, e)) in
    let a = step_success h.state (lent (length h.copy) k) f e (rw g at y) c in
    sent_here h.state (lent_all n (k ∷ ks)) (rw a.0)

success_after : (h : Held) (ks : List Reply) (n : ℕ) (x : Finish) → length h.copy ≡ n → h.state.plan.page ≡ controller_page → h.endings ≡ []
    → (held_after h ks).endings ≡ x ∷ [] → good x.ending ≡ true → acknowledges h.state (lent_all n ks) ≡ true
unfolding held_after
success_after h [] n x l c z q y = let o = ap (λ (fs : List Finish). length fs) (sym z ∙ q) in absurd (omega arith)
success_after h (k ∷ ks) n x l c z q y =
    success_on h k ks n x l c z q y
    (λ e. success_after (held_on h k) ks n x (copy_length h.state k.ok k.bytes h.copy ∙ l)
    (ap (λ (p : Plan). p.page) (step_counts h.state k.ok k.bytes (length h.copy)).plan ∙ c) e q y)
    (step_with h k).next refl

-- After a success on 08h the record is commands with RAE 1 and then one with RAE 0, the acknowledgement.
pub success_record : (p : Plan) (copy : List ℕ) (ks : List Reply) (x : Finish) → setup_answer p ≡ success → p.page ≡ controller_page
    → (held_of p copy ks).endings ≡ x ∷ [] → good x.ending ≡ true → Acknowledged (record_of p (lent_all (length copy) ks))
success_record p copy ks x e c q y =
    rae_last_alone p (lent_all (length copy) ks) e
    (success_after (record { state = (setup_of p).state; copy = copy; attempts = []; endings = [] }) ks (length copy) x refl (rw (setup_taken p e) c) refl q y)
