-- What the code's calls come to, one after another.
-- Assumes nothing.
use Rattle.std.specs.Prelude.{ℕ, ◌≡◌, List, [], ◌∷◌, ◌&&◌, ◌||◌, get_or, leb, eqb}
use Rattle.std.proofs.Common.{ap, subst, ◌∙◌}
use Rattle.choices.specs.Tests.{holds}
use Rattle.copies.specs.Parts.{zeros, put_at}
use Rattle.littleendian.specs.Numbers.{bytes_of, value_at}
use Rattle.arrays.specs.Arrays.{fours_of, fours_at}
use Rattle.littleendian.specs.Puts.{then}
use Rattle.pages.specs.declared.Caps.{Caps}
use Rattle.plans.specs.declared.Plan.{Plan}
use Rattle.phases.specs.declared.Phase.{Phase}
use Rattle.collection.specs.declared.Collection.{Collection}
use Rattle.shared_layouts.specs.Layouts.{most_caps, caps_of}
use Rattle.state_layout.specs.Layout.{chunk_start, phase_of, state_marks, state_bytes, plan_from, state_at, state_intact}

-- a state
pub state_is : (s : Collection) {start : ℕ} {m o p q r t : List ℕ} → m ≡ state_marks s → start ≡ chunk_start s.phase
    → o ≡ put_at (zeros 56) 0 m → p ≡ put_at o 8 (fours_of (s.plan.chunk ∷ s.plan.attempts ∷ s.attempt.number ∷ start ∷ []))
    → q ≡ put_at p 24 (bytes_of 8 s.plan.room) → r ≡ put_at q 32 (bytes_of 8 s.count) → t ≡ put_at r 40 (fours_of s.attempt.last)
    → t ≡ state_bytes s
unfolding put_at state_bytes
state_is s {o = o} {p = p} em es e1 e2 e3 e4 e5 =
    then 40 (fours_of s.attempt.last)
    (then 32 (bytes_of 8 s.count)
    (then 24 (bytes_of 8 s.plan.room)
    (then 8 (fours_of (s.plan.chunk ∷ s.plan.attempts ∷ s.attempt.number ∷ chunk_start s.phase ∷ [])) (e1 ∙ ap (λ (l : List ℕ). put_at (zeros 56) 0 l) em)
    (subst (λ (n : ℕ). p ≡ put_at o 8 (fours_of (s.plan.chunk ∷ s.plan.attempts ∷ s.attempt.number ∷ n ∷ []))) es e2))
    e3)
    e4)
    e5

-- ---- reading

pub plan_is : (b : List ℕ) (chunk attempts : ℕ) {caps : Caps} {room : ℕ} → caps ≡ caps_of (get_or b 4 0) → room ≡ value_at 8 24 b
    → record { page = get_or b 1 0; create = eqb (get_or b 2 0) 1; area = get_or b 3 0; chunk = chunk; attempts = attempts; room = room; caps = caps }
    ≡ plan_from b chunk attempts
plan_is b chunk attempts p r = rw (p, r)

pub read_is : (b : List ℕ) {n : List ℕ} {plan : Plan} {phase : Phase} {count : ℕ} {last : List ℕ} → n ≡ fours_at 8 b → plan ≡ plan_from b (get_or n 0 0) (get_or n 1 0)
    → phase ≡ phase_of (get_or b 0 0) (get_or n 3 0) → count ≡ value_at 8 32 b → last ≡ fours_at 40 b
    → record { plan = plan; phase = phase; attempt = record { number = get_or n 2 0; generation = get_or b 5 0; last = last }; count = count } ≡ state_at b
unfolding state_at
read_is b en p f c l = rw (p, f, c, l, en)

-- the tests, the block where a chunk starts being read apart
pub intact_is : (b : List ℕ) {start : ℕ} → start ≡ value_at 4 20 b
    → leb (get_or b 0 0) 5 && leb (get_or b 2 0) 1 && leb (get_or b 4 0) most_caps && eqb (get_or b 6 0) 0 && eqb (get_or b 7 0) 0 && (eqb (get_or b 0 0) 1 || eqb start 0)
    ≡ state_intact b
unfolding state_intact holds
intact_is b e = rw e
