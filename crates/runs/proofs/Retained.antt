-- Which commands of a run carry RAE and create, whatever completes them: all but the last have RAE 1, and on 07h the last one too; create is
-- sent with the first command alone.
-- Assumes nothing.
use Rattle.std.specs.Prelude.{ℕ, ◌+◌, ◌≡◌, refl, List, [], ◌∷◌, ◌++◌, Bool, true, false, not, ◌||◌, length, leb}
use Rattle.std.proofs.Common.{sym, ap, subst, ◌∙◌, arith}
use Rattle.choices.specs.Choice.{pick_cases}
use Rattle.choices.specs.Tests.{clash, same_or_not}
use Rattle.answers.specs.Answers.{success}
use Rattle.copies.specs.Parts.{zeros}
use Rattle.pages.specs.Pages.{host_page, controller_page, most4}
use Rattle.words.specs.declared.Command.{Command}
use Rattle.words.specs.declared.Words.{Words}
use Rattle.words.specs.Words.{read_of}
use Rattle.plans.specs.declared.Plan.{Plan}
use Rattle.phases.specs.declared.Phase.{Phase}
use Rattle.phases.specs.declared.Phase.TheVariants.{First}
use Rattle.completions.specs.declared.Seen.{Seen}
use Rattle.judgement.specs.declared.Move.{Move}
use Rattle.phases.specs.Awaited.{command_by, asks_rae, asks_create}
use Rattle.phases.specs.Phases.{first_by, ack_by, ended_by, silent_by, closing_is}
use Rattle.plans.specs.Plans.{setup_answer, area_last, chunk_of}
use Rattle.phases.specs.Asked.{phase_at}
use Rattle.collection.specs.Collection.{awaited_of, refusal_of, look_of, move_of, beginning}
use Rattle.collection.specs.Copied.{not_sent}
use Rattle.collection.specs.Laws.{move_cases}
use Rattle.collection.specs.Steps.{makes, awaited_taken, setup_taken, refused_step, taken_step}
use Rattle.collection.specs.declared.Collection.{Collection}
use Rattle.collection.specs.Told.{Next}
use Rattle.collection.specs.declared.Next.TheVariants.{Send, End as Ends, Refuse}
use Rattle.collection.specs.Told.{Stepped}
use Rattle.runs.specs.Run.{Completion, step_by, given, play, record_of}
use Rattle.runs.specs.Counted.{step_counts}
use Rattle.runs.specs.Bound.{Reached}
use Rattle.runs.proofs.Bound.{reached_ok, step_house, begins}
use Rattle.runs.specs.Retained.{All, AllButLast, AllButFirst, Retains, NoCreate}

-- a phase that a step can lead to with a command
abbrev later_by : Phase → Bool
later_by f = not (first_by f || ended_by f)

no_left : (a b : Bool) → a || b ≡ false → a ≡ false
no_left true b e = e
no_left false b e = refl

neither : (a b : Bool) → not (a || b) ≡ true → (a ≡ false) × (b ≡ false)
neither true b e = clash {t = true} refl (sym e)
neither false true e = clash {t = true} refl (sym e)
neither false false e = (refl, refl)

at_later : (at b : ℕ) → later_by (phase_at at b) ≡ true
unfolding phase_at
at_later at b = pick_cases (λ (f : Phase). later_by f ≡ true) (leb at b) (λ e. refl) (λ e. refl)

pub at_no_ack : (at b : ℕ) → ack_by (phase_at at b) ≡ false
unfolding phase_at
at_no_ack at b = pick_cases (λ (f : Phase). ack_by f ≡ false) (leb at b) (λ e. refl) (λ e. refl)

-- ---- a command that a step gives

-- it is the one that the state after it awaits; the acknowledgement is given on 08h alone
record Gives (s : Collection) (x : Stepped) (w : Words) : Type 0 where
  awaits : w ≡ awaited_of x.state
  later : later_by x.state.phase ≡ true
  ack : ack_by x.state.phase ≡ true → s.plan.page ≡ controller_page

same_words : {v w : Words} → ◌≡◌ {A = Next} (Send v) (Send w) → w ≡ v
same_words q = cc

abbrev Gave : Collection → Seen → Words → Move → Type 0
Gave s h w m = (makes s h m).next ≡ Send w → Gives s (makes s h m) w

gave : (s : Collection) (ok : Bool) (h : Seen) (w : Words) → Gave s h w (move_of s ok h)
unfolding makes awaited_of
gave s ok h w = move_cases (Gave s h w) s ok h (record {
  fail = λ n l t q. not_sent (sym q);
  short = λ e g t f l q. not_sent (sym q);
  first = λ f r q. record {
    awaits = same_words q;
    later = at_later 1 (area_last s.plan h.last);
    ack = λ a. clash a (at_no_ack 1 (area_last s.plan h.last));
  };
  again = λ f l r q. record {
    awaits = same_words q;
    later = at_later 1 (area_last s.plan h.last);
    ack = λ a. clash a (at_no_ack 1 (area_last s.plan h.last));
  };
  more = λ at f y q. record {
    awaits = same_words q;
    later = at_later (at + chunk_of s.plan) (area_last s.plan s.attempt.last);
    ack = λ a. clash a (at_no_ack (at + chunk_of s.plan) (area_last s.plan s.attempt.last));
  };
  skip = λ at f n q. record { awaits = same_words q; later = refl; ack = λ a. clash {t = true} refl (sym a) };
  acknowledge = λ f m p q. record { awaits = same_words q; later = refl; ack = λ a. p };
  stand = λ f m n q. not_sent (sym q);
  done = λ f y q. not_sent (sym q);
})

step_gives : (s : Collection) (k : Completion) (w : Words) → (step_by s k).next ≡ Send w → Gives s (step_by s k) w
step_gives s k w q =
    same_or_not (refusal_of s k.ok (length k.bytes) k.copy) success
    (λ e.
    let t = taken_step s k.ok k.bytes k.copy e in
    rw t (gave s k.ok (look_of s k.bytes) w (rw t at q)))
    (λ e.
    let p = rw (refused_step s k.ok k.bytes k.copy e) at q in
    let z : ◌≡◌ {A = ℕ} 0 1 = cc in
    absurd (omega arith))

-- ---- what such a command says

rae_by : (f : Phase) (p : Plan) (last : List ℕ) → ack_by f ≡ false → (command_by f p last).rae ≡ true
rae_by f p last e = asks_rae f p last ∙ rw e

create_by : (f : Phase) (p : Plan) (last : List ℕ) → later_by f ≡ true → (command_by f p last).create ≡ false
create_by f p last e = asks_create f p last ∙ rw (neither (first_by f) (ended_by f) e).0

pub awaited_reads : (s : Collection) → Reached most4 s → ended_by s.phase ≡ false → read_of s.plan.caps.extended (awaited_of s) ≡ command_by s.phase s.plan s.attempt.last
unfolding awaited_of
awaited_reads s r g = (awaited_taken s (reached_ok s r) g).reads

pub given_reads : (s : Collection) (k : Completion) (w : Words) → Reached most4 s → (step_by s k).next ≡ Send w
    → read_of (step_by s k).state.plan.caps.extended w ≡ command_by (step_by s k).state.phase (step_by s k).state.plan (step_by s k).state.attempt.last
given_reads s k w r q =
    let g = step_gives s k w q in
    rw g.awaits (awaited_reads (step_by s k).state (step_house s k r) (neither (first_by (step_by s k).state.phase) (ended_by (step_by s k).state.phase) g.later).1)

given_rae : (s : Collection) (k : Completion) (w : Words) → Reached most4 s → (step_by s k).next ≡ Send w
    → ack_by (step_by s k).state.phase ≡ false → Retains w
given_rae s k w r q a =
    ap (λ (c : Command). c.rae) (given_reads s k w r q)
    ∙ rae_by (step_by s k).state.phase (step_by s k).state.plan (step_by s k).state.attempt.last a

given_create : (s : Collection) (k : Completion) (w : Words) → Reached most4 s → (step_by s k).next ≡ Send w → NoCreate w
given_create s k w r q =
    ap (λ (c : Command). c.create) (given_reads s k w r q)
    ∙ create_by (step_by s k).state.phase (step_by s k).state.plan (step_by s k).state.attempt.last (step_gives s k w q).later

-- ---- after the acknowledgement no command is sent

record Silent (x : Stepped) : Type 0 where
  gives : given x.next ≡ []
  stays : silent_by x.state.phase ≡ true

silent : (s : Collection) (ok : Bool) (h : Seen) → silent_by s.phase ≡ true → Silent (makes s h (move_of s ok h))
unfolding makes
silent s ok h e = move_cases (λ (m : Move). Silent (makes s h m)) s ok h (record {
  fail = λ n l t. record { gives = refl; stays = refl };
  short = λ e g t f l. record { gives = refl; stays = refl };
  first = λ f r. clash {t = true} refl (sym (rw f at e));
  again = λ f l r. let q = closing_is s.phase f in clash e (rw (q.no_ack, q.going));
  more = λ at f y. clash {t = true} refl (sym (rw f at e));
  skip = λ at f n. clash {t = true} refl (sym (rw f at e));
  acknowledge = λ f m p. clash {t = true} refl (sym (rw f at e));
  stand = λ f m n. record { gives = refl; stays = refl };
  done = λ f y. record { gives = refl; stays = refl };
})

step_silent : (s : Collection) (k : Completion) → silent_by s.phase ≡ true → Silent (step_by s k)
step_silent s k e =
    same_or_not (refusal_of s k.ok (length k.bytes) k.copy) success
    (λ r. rw (taken_step s k.ok k.bytes k.copy r) (silent s k.ok (look_of s k.bytes) e))
    (λ r. rw (refused_step s k.ok k.bytes k.copy r) (record { gives = refl; stays = e }))

pub play_silent : (s : Collection) (ks : List Completion) → silent_by s.phase ≡ true → play s ks ≡ []
unfolding play
play_silent s [] e = refl
play_silent s (k ∷ ks) e =
    let q = step_silent s k e in
    rw q.gives (play_silent (step_by s k).state ks q.stays)

-- ---- runs

-- one step more, by what it gives
chain_on : (s : Collection) (k : Completion) (ks : List Completion) (w : Words) → Reached most4 s → Retains w
    → ((v : Words) → (silent_by (step_by s k).state.phase ≡ false → Retains v) → AllButLast Retains (v ∷ play (step_by s k).state ks))
    → (n : Next) → (step_by s k).next ≡ n → AllButLast Retains (w ∷ given n ++ play (step_by s k).state ks)
chain_on s k ks w r h rest (Send v) q = (h, rest v (λ l. given_rae s k v r q (no_left (ack_by (step_by s k).state.phase) (ended_by (step_by s k).state.phase) l)))
chain_on s k ks w r h rest (Ends e) q = rest w (λ l. h)
chain_on s k ks w r h rest (Refuse n) q = rest w (λ l. h)

chain_step : (s : Collection) (k : Completion) (ks : List Completion) (w : Words) → Reached most4 s → (silent_by s.phase ≡ false → Retains w)
    → ((v : Words) → (silent_by (step_by s k).state.phase ≡ false → Retains v) → AllButLast Retains (v ∷ play (step_by s k).state ks))
    → AllButLast Retains (w ∷ play s (k ∷ ks))
unfolding play
chain_step s k ks w r a rest = by (silent_by s.phase) refl
  where
    by : (t : Bool) → silent_by s.phase ≡ t → AllButLast Retains (w ∷ play s (k ∷ ks))
    by true e = subst (λ (ws : List Words). AllButLast Retains (w ∷ ws)) (sym (play_silent s (k ∷ ks) e)) tt
    by false e = chain_on s k ks w r (a e) rest (step_by s k).next refl

-- all but the last of a command, which retains unless it is the acknowledgement, and of those that follow it
chain : (s : Collection) (ks : List Completion) (w : Words) → Reached most4 s → (silent_by s.phase ≡ false → Retains w)
    → AllButLast Retains (w ∷ play s ks)
unfolding play
chain s [] w r a = tt
chain s (k ∷ ks) w r a = chain_step s k ks w r a (λ v h. chain (step_by s k).state ks v (step_house s k r) h)

-- what holds of each command that a step gives holds of all that steps give
given_all : (P : Words → Type 0) (n : Next) (ws : List Words) → ((w : Words) → n ≡ Send w → P w) → All P ws → All P (given n ++ ws)
given_all P (Send w) ws f rest = (f w refl, rest)
given_all P (Ends e) ws f rest = rest
given_all P (Refuse n) ws f rest = rest

play_all : (P : Words → Type 0) (page : ℕ)
    → ((s : Collection) (k : Completion) (w : Words) → Reached most4 s → s.plan.page ≡ page → (step_by s k).next ≡ Send w → P w)
    → (s : Collection) (ks : List Completion) → Reached most4 s → s.plan.page ≡ page → All P (play s ks)
unfolding play
play_all P page f s [] r e = tt
play_all P page f s (k ∷ ks) r e =
    given_all P (step_by s k).next (play (step_by s k).state ks) (λ w q. f s k w r e q)
    (play_all P page f (step_by s k).state ks (step_house s k r) (ap (λ (p : Plan). p.page) (step_counts s k.ok k.bytes k.copy).plan ∙ e))

first_retains : (p : Plan) → setup_answer p ≡ success → Retains (awaited_of (beginning p First 1))
first_retains p e =
    let r : Reached most4 (beginning p First 1) = rw (setup_taken p e) at (begins most4 p e) in
    ap (λ (c : Command). c.rae) (awaited_reads (beginning p First 1) r refl) ∙ rae_by First p (zeros 4) refl

-- Only the last command of a run can have RAE 0,
pub rae_all_but_last : (p : Plan) (ks : List Completion) → setup_answer p ≡ success → AllButLast Retains (record_of p ks)
rae_all_but_last p ks e =
    rw (setup_taken p e) (chain (beginning p First 1) ks (awaited_of (beginning p First 1)) (rw (setup_taken p e) at (begins most4 p e)) (λ l. first_retains p e))

-- and on 07h none has.
pub rae_all_on_host : (p : Plan) (ks : List Completion) → setup_answer p ≡ success → p.page ≡ host_page → All Retains (record_of p ks)
rae_all_on_host p ks e h =
    rw (setup_taken p e)
    (first_retains p e, play_all Retains host_page host (beginning p First 1) ks (rw (setup_taken p e) at (begins most4 p e)) h)
  where
    host : (s : Collection) (k : Completion) (w : Words) → Reached most4 s → s.plan.page ≡ host_page → (step_by s k).next ≡ Send w → Retains w
    host s k w r q g = given_rae s k w r g (no_ack (ack_by (step_by s k).state.phase) refl)
      where
        no_ack : (t : Bool) → ack_by (step_by s k).state.phase ≡ t → t ≡ false
        no_ack true a = let c = (step_gives s k w g).ack a in absurd (omega arith)
        no_ack false a = refl

-- Create is sent with the first command alone, so once at most.
pub create_first_alone : (p : Plan) (ks : List Completion) → setup_answer p ≡ success → AllButFirst NoCreate (record_of p ks)
create_first_alone p ks e =
    rw (setup_taken p e)
    (play_all NoCreate p.page (λ s k w r q g. given_create s k w r g) (beginning p First 1) ks (rw (setup_taken p e) at (begins most4 p e)) refl)
