-- What is written reads back exactly, and intact bytes are the bytes of the state that they say: nothing is lost on either way.
-- Assumes nothing.
use Rattle.std.specs.Prelude.{ℕ, zero, suc, ◌^◌, ◌<◌, ◌≡◌, refl, List, Bool, true, false, ◌||◌, length, get_or, leb, eqb}
use Rattle.std.proofs.Common.{sym, ap, ◌∙◌, arith, le-leb, leb-true, eqb-true}
use Rattle.choices.specs.Choice.{one}
use Rattle.choices.specs.Tests.{holds, each}
use Rattle.littleendian.specs.Numbers.{bytes_of, value_of, value_at}
use Rattle.littleendian.specs.Back.{value_back, run_all, both, join, Bytes, bytes_kept, eight}
use Rattle.arrays.specs.Back.{Four, fours_back, fours_kept}
use Rattle.pages.specs.declared.Caps.{Caps}
use Rattle.phases.specs.declared.Phase.{Phase}
use Rattle.phases.specs.declared.Phase.TheVariants.{First, Chunk, Close, Ack, Ended}
use Rattle.collection.specs.declared.Collection.{Collection}
use Rattle.shared_layouts.specs.Back.{one_most, one_back, one_kept, caps_most, caps_back, caps_kept}
use Rattle.state_layout.specs.Layout.{phase_byte, chunk_start, phase_of, state_bytes, state_at, state_intact}

-- what the types of a state's numbers and arrays say
pub record Typed (s : Collection) : Type 0 where
  pub chunk : s.plan.chunk < 256 ^ 4
  pub attempts : s.plan.attempts < 256 ^ 4
  pub attempt : s.attempt.number < 256 ^ 4
  pub start : chunk_start s.phase < 256 ^ 4
  pub room : s.plan.room < 256 ^ 8
  pub count : s.count < 256 ^ 8
  pub last : Four s.attempt.last

phase_most : (f : Phase) → leb (phase_byte f) 5 ≡ true
phase_most First = refl
phase_most (Chunk at) = refl
phase_most (Close true) = refl
phase_most (Close false) = refl
phase_most Ack = refl
phase_most Ended = refl

start_intact : (f : Phase) → eqb (phase_byte f) 1 || eqb (value_of (bytes_of 4 (chunk_start f))) 0 ≡ true
start_intact First = refl
start_intact (Chunk at) = refl
start_intact (Close true) = refl
start_intact (Close false) = refl
start_intact Ack = refl
start_intact Ended = refl

phase_back : (f : Phase) → chunk_start f < 256 ^ 4 → phase_of (phase_byte f) (value_of (bytes_of 4 (chunk_start f))) ≡ f
unfolding phase_of
phase_back First h = refl
phase_back (Chunk at) h = ap Chunk (value_back 4 at h)
phase_back (Close true) h = refl
phase_back (Close false) h = refl
phase_back Ack h = refl
phase_back Ended h = refl

-- a written state is intact
pub state_intact_lem : (s : Collection) → state_intact (state_bytes s) ≡ true
unfolding state_intact state_bytes holds
state_intact_lem s =
    rw (phase_most s.phase, le-leb (one s.plan.create) 1 (one_most s.plan.create), caps_most s.plan.caps)
    (start_intact s.phase)

same_state : (s : Collection) {create : Bool} {chunk attempts room attempt count : ℕ} {caps : Caps} {phase : Phase} {last : List ℕ}
    → create ≡ s.plan.create → chunk ≡ s.plan.chunk → attempts ≡ s.plan.attempts → room ≡ s.plan.room → caps ≡ s.plan.caps
    → phase ≡ s.phase → attempt ≡ s.attempt.number → count ≡ s.count → last ≡ s.attempt.last
    → record {
      plan = record { page = s.plan.page; create = create; area = s.plan.area; chunk = chunk; attempts = attempts; room = room; caps = caps };
      phase = phase;
      attempt = record { number = attempt; generation = s.attempt.generation; last = last };
      count = count;
    }
    ≡ s
same_state s c k n r p f a o l = rw (c, k, n, r, p, f, a, o, l)

-- and reads back to the state that was written
pub state_back : (s : Collection) → Typed s → state_at (state_bytes s) ≡ s
unfolding state_at state_bytes
state_back s t =
    same_state s (one_back s.plan.create)
    (value_back 4 s.plan.chunk t.chunk)
    (value_back 4 s.plan.attempts t.attempts)
    (value_back 8 s.plan.room t.room)
    (caps_back s.plan.caps)
    (phase_back s.phase t.start)
    (value_back 4 s.attempt.number t.attempt)
    (value_back 8 s.count t.count)
    (fours_back s.attempt.last t.last)

-- what holds of each phase's number holds of a number of at most 5
phases : (P : ℕ → Type 0) → P 0 → P 1 → P 2 → P 3 → P 4 → P 5 → (n : ℕ) → leb n 5 ≡ true → P n
phases P p0 p1 p2 p3 p4 p5 zero e = p0
phases P p0 p1 p2 p3 p4 p5 (suc zero) e = p1
phases P p0 p1 p2 p3 p4 p5 (suc (suc zero)) e = p2
phases P p0 p1 p2 p3 p4 p5 (suc (suc (suc zero))) e = p3
phases P p0 p1 p2 p3 p4 p5 (suc (suc (suc (suc zero)))) e = p4
phases P p0 p1 p2 p3 p4 p5 (suc (suc (suc (suc (suc zero))))) e = p5
phases P p0 p1 p2 p3 p4 p5 (suc (suc (suc (suc (suc (suc n)))))) e =
    let h = leb-true (suc (suc (suc (suc (suc (suc n)))))) 5 e in absurd (omega arith)

phase_kept : (n at : ℕ) → leb n 5 ≡ true → phase_byte (phase_of n at) ≡ n
unfolding phase_of
phase_kept n at e = phases (λ (k : ℕ). phase_byte (phase_of k at) ≡ k) refl refl refl refl refl refl n e

start_kept : (n at : ℕ) → leb n 5 ≡ true → eqb n 1 || eqb at 0 ≡ true → chunk_start (phase_of n at) ≡ at
unfolding phase_of
start_kept n at e =
    let none : eqb at 0 ≡ true → 0 ≡ at = λ q. sym (eqb-true at 0 q) in
    phases (λ (k : ℕ). eqb k 1 || eqb at 0 ≡ true → chunk_start (phase_of k at) ≡ at) none (λ q. refl) none none none none n e

-- intact bytes are the bytes of the state that they say
pub state_bytes_back : (b : List ℕ) → length b ≡ 56 → Bytes b → state_intact b ≡ true → state_bytes (state_at b) ≡ b
unfolding state_bytes state_at state_intact
state_bytes_back b l t s =
    let marks =
    eight (phase_kept (get_or b 0 0) (value_at 4 20 b) (each _ s 0)) refl (one_kept (get_or b 2 0) (each _ s 1)) refl
    (caps_kept (get_or b 4 0) (each _ s 2))
    refl
    (sym (eqb-true (get_or b 6 0) 0 (each _ s 3)))
    (sym (eqb-true (get_or b 7 0) 0 (each _ s 4)))
    in
    let start =
    ap (λ (n : ℕ). bytes_of 4 n) (start_kept (get_or b 0 0) (value_at 4 20 b) (each _ s 0) (each _ s 5)) ∙ bytes_kept 4 20 b t
    in
    let front = join marks (bytes_kept 4 8 b t) (bytes_kept 4 12 b t) (bytes_kept 4 16 b t) in
    both (join front start (bytes_kept 8 24 b t) (bytes_kept 8 32 b t)) (fours_kept 40 b t) ∙ run_all 56 b l
