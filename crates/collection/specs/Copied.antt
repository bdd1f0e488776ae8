-- What each step leaves of the copy: a good chunk changes just its part, a success leaves the area's bytes and zeros after them, every
-- other ending zeros, and nothing else changes it.
-- Assumes nothing.
use Rattle.std.specs.Prelude.{ℕ, ◌+◌, ◌-◌, ◌*◌, ◌≤◌, ◌≡◌, refl, List, ◌++◌, Bool, length, take}
use Rattle.std.proofs.Common.{sym, ap, ◌∙◌, arith, length-drop}
use Rattle.std.proofs.Math.Bool.{true, false}
use Rattle.choices.specs.Tests.{same_or_not}
use Rattle.copies.specs.Parts.{zeros, put, put_fits}
use Rattle.answers.specs.Answers.{success}
use Rattle.pages.specs.Pages.{block}
use Rattle.words.specs.declared.Words.{Words}
use Rattle.phases.specs.declared.Phase.TheVariants.{Chunk}
use Rattle.plans.specs.Plans.{area_last, area_bytes, chunk_of, lead_of}
use Rattle.phases.specs.Asked.{chunk_in, chunk_blocks}
use Rattle.phases.specs.Chunks.{chunk_inside, chunk_ends}
use Rattle.plans.specs.Limits.{fits_room_lem}
use Rattle.completions.specs.declared.Seen.{Seen}
use Rattle.touches.specs.Touched.{touched, touched_length, zeros_after, zeros_all}
use Rattle.endings.specs.declared.Ending.{Ending}
use Rattle.endings.specs.declared.Ending.TheVariants.{Success}
use Rattle.judgement.specs.declared.Move.{Move}
use Rattle.judgement.specs.declared.Move.TheVariants.{End, Open, More, Skip, Acknowledge}
use Rattle.judgement.specs.Judgement.{newer_than, tests_of, judge_by}
use Rattle.turns.specs.Turns.{good}
use Rattle.collection.specs.declared.Collection.{Collection}
use Rattle.collection.specs.declared.Finish.{Finish}
use Rattle.collection.specs.Told.{Next}
use Rattle.collection.specs.declared.Next.TheVariants.{Send, End as Ends, Refuse}
use Rattle.collection.specs.Collection.{expected_of, look_of, refusal_of, move_of, decide_of, step_of, copy_after}
use Rattle.collection.specs.Laws.{state_valid, not_refused, Moves, move_cases}
use Rattle.collection.specs.Steps.{makes, touches, refused_step, refused_copy, taken_step, taken_copy}

-- the area of a state whose completion is taken lies within the copy
pub area_within : (s : Collection) (ok : Bool) (bytes copy : ℕ) → refusal_of s ok bytes copy ≡ success → area_bytes s.plan s.attempt.last ≤ copy
area_within s ok bytes copy r =
    let t = not_refused s ok bytes copy r in
    let f = fits_room_lem s.plan s.attempt.last (state_valid s t.state).area in
    omega arith

-- a good chunk has its length after the blocks in front of it, and lies within the area
pub chunk_length : (s : Collection) (at : ℕ) (d : List ℕ) (copy : ℕ) → s.phase ≡ Chunk at → refusal_of s true (length d) copy ≡ success
    → length (chunk_in s.plan d) ≡ block * chunk_blocks (chunk_of s.plan) at (area_last s.plan s.attempt.last)
unfolding expected_of
chunk_length s at d copy f r =
    let l : length d ≡ block * (lead_of s.plan + chunk_blocks (chunk_of s.plan) at (area_last s.plan s.attempt.last)) = rw f at (not_refused s true (length d) copy r).bytes_fit in
    length-drop (block * lead_of s.plan) d ∙ omega arith

chunk_fits : (s : Collection) (at : ℕ) (d : List ℕ) (copy : ℕ) → s.phase ≡ Chunk at → refusal_of s true (length d) copy ≡ success
    → block * (at - 1) + length (chunk_in s.plan d) ≤ copy
chunk_fits s at d copy f r =
    let k = state_valid s (not_refused s true (length d) copy r).state in
    let i = chunk_inside s.plan s.attempt.last at (rw f at k.inside) in
    let e = chunk_ends (chunk_of s.plan) at (area_last s.plan s.attempt.last) i.high in
    let l = chunk_length s at d copy f r in
    let w = area_within s true (length d) copy r in
    omega (arith, i.low, i.high)

-- no step changes the copy's length
pub copy_length : (s : Collection) (ok : Bool) (d copy : List ℕ) → length (copy_after s ok d copy) ≡ length copy
unfolding copy_after
copy_length s ok d copy = touched_length (decide_of s ok (length d) (length copy) (look_of s d)).touch d copy

-- ---- a good chunk goes into the copy at its block less the header, and no other byte changes

pub chunk_copy : (s : Collection) (at : ℕ) (d copy : List ℕ) → s.phase ≡ Chunk at → refusal_of s true (length d) (length copy) ≡ success
    → (block * (at - 1) + length (chunk_in s.plan d) ≤ length copy) × (copy_after s true d copy ≡ put copy (block * (at - 1)) (chunk_in s.plan d))
unfolding move_of judge_by tests_of touches touched
chunk_copy s at d copy f r =
    let l = chunk_fits s at d (length copy) f r in
    (l, taken_copy s true d copy r ∙ rw f (put_fits copy (block * (at - 1)) (chunk_in s.plan d) l))

-- ---- endings

-- what follows is an ending or it is not
pub not_sent : {A : Type 0} {w : Words} {e : Finish} → ◌≡◌ {A = Next} (Send w) (Ends e) → A
not_sent q = let z : ◌≡◌ {A = ℕ} 0 1 = cc in absurd (omega arith)

pub not_refusal : {A : Type 0} {n : ℕ} {e : Finish} → Refuse n ≡ Ends e → A
not_refusal q = let z : ◌≡◌ {A = ℕ} 0 1 = cc in absurd (omega arith)

-- how an ending ended
abbrev ending_or : Ending → Next → Ending
ending_or x (Send w) = x
ending_or x (Ends e) = e.ending
ending_or x (Refuse n) = x

pub ending_of : {x e : Finish} → ◌≡◌ {A = Next} (Ends x) (Ends e) → x.ending ≡ e.ending
ending_of {x} q = ap (ending_or x.ending) q

-- what is said of an ending: a success leaves the area's bytes and zeros after them, every other ending leaves zeros
pub record Left (s : Collection) (copy after : List ℕ) (e : Finish) : Type 0 where
  pub area : area_bytes s.plan s.attempt.last ≤ length copy
  pub stood : good e.ending ≡ true
      → after ≡ take (area_bytes s.plan s.attempt.last) copy ++ zeros (length copy - area_bytes s.plan s.attempt.last)
  pub cleared : good e.ending ≡ false → after ≡ zeros (length copy)

-- a move that ends the collection leaves that
abbrev Leaves : Collection → List ℕ → List ℕ → Finish → Seen → Move → Type 0
Leaves s d copy e h m = (makes s h m).next ≡ Ends e → Left s copy (touched (touches s m) d copy) e

module _ (s : Collection) (d copy : List ℕ) (e : Finish) (w : area_bytes s.plan s.attempt.last ≤ length copy) where
  goes_on : (h : Seen) (m : Move) (x : Words) → (makes s h m).next ≡ Send x → Leaves s d copy e h m
  goes_on h m x p q = not_sent (sym p ∙ q)

  ended : (h : Seen) (x : Ending) (next : Bool) → Leaves s d copy e h (End x next)
  unfolding makes touches touched
  ended h x next q =
      let a : x ≡ e.ending = ending_of q in
      record {
        area = w;
        stood = λ z. let y : good x ≡ true = rw a z in rw y (zeros_after copy (area_bytes s.plan s.attempt.last) w);
        cleared = λ z. let y : good x ≡ false = rw a z in rw y (zeros_all copy);
      }

  moves : (ok : Bool) (h : Seen) → Moves (Leaves s d copy e h) s ok h
  unfolding makes
  moves ok h = record {
    fail = λ x l t. ended h x false;
    short = λ x y t f l. ended h x true;
    first = λ f r. goes_on h (Open false) _ refl;
    again = λ f l r. goes_on h (Open true) _ refl;
    more = λ at f y. goes_on h (More at) _ refl;
    skip = λ at f n. goes_on h Skip _ refl;
    acknowledge = λ f m p. goes_on h Acknowledge _ refl;
    stand = λ f m n. ended h (Success false) false;
    done = λ f y. ended h (Success (newer_than s.attempt h)) false;
  }

pub ending_copy : (s : Collection) (ok : Bool) (d copy : List ℕ) (e : Finish) → (step_of s ok d (length copy)).next ≡ Ends e
    → Left s copy (copy_after s ok d copy) e
ending_copy s ok d copy e q =
    same_or_not (refusal_of s ok (length d) (length copy)) success
    (λ r.
    let w = area_within s ok (length d) (length copy) r in
    rw (taken_copy s ok d copy r)
    (move_cases (Leaves s d copy e (look_of s d)) s ok (look_of s d) (moves s d copy e w ok (look_of s d)) (rw (taken_step s ok d (length copy) r) at q)))
    (λ r. not_refusal (rw (refused_step s ok d (length copy) r) at q))

-- ---- nothing else changes the copy

-- a move after which a command is sent leaves the copy, but for a good chunk's
abbrev Keeps : Collection → List ℕ → List ℕ → Words → Seen → Move → Type 0
Keeps s d copy x h m = (makes s h m).next ≡ Send x → touched (touches s m) d copy ≡ copy

pub sending_copy : (s : Collection) (ok : Bool) (d copy : List ℕ) (x : Words) → (step_of s ok d (length copy)).next ≡ Send x
    → ((at : ℕ) → s.phase ≡ Chunk at → ok ≡ true → ⊥) → copy_after s ok d copy ≡ copy
unfolding makes touches touched
sending_copy s ok d copy x q other =
    same_or_not (refusal_of s ok (length d) (length copy)) success
    (λ r.
    taken_copy s ok d copy r
    ∙ move_cases (Keeps s d copy x (look_of s d)) s ok (look_of s d) (record {
      fail = λ n l t p. not_sent (sym p);
      short = λ x y t f l p. not_sent (sym p);
      first = λ f l p. refl;
      again = λ f l a p. refl;
      more = λ at f y. absurd (other at f y);
      skip = λ at f n p. refl;
      acknowledge = λ f m w p. refl;
      stand = λ f m n p. not_sent (sym p);
      done = λ f y p. not_sent (sym p);
    }) (rw (taken_step s ok d (length copy) r) at q))
    (λ r. refused_copy s ok d copy r)
