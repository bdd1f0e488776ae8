-- The lengths of chunks, where an awaited one starts, and what it asks for.
-- Assumes nothing.
use Rattle.std.specs.Prelude.{ℕ, ◌+◌, ◌-◌, ◌≤◌, ◌<◌, ◌≡◌, List, Bool, true, false, ◌&&◌, ◌||◌, leb, eqb}
use Rattle.std.proofs.Common.{arith, zero-add, leb-true, eqb-true, le-leb}
use Rattle.std.proofs.lemmas.Bool.{lt-leb}
use Rattle.choices.specs.Choice.{pick, pick_cases, smaller_left, smaller_right}
use Rattle.choices.specs.Tests.{and_left, and_right}
use Rattle.plans.specs.declared.Plan.{Plan}
use Rattle.plans.specs.Plans.{area_last, reach, chunk_of, lead_of}
use Rattle.phases.specs.declared.Phase.TheVariants.{Chunk, Close}
use Rattle.phases.specs.Phases.{asked}
use Rattle.phases.specs.Asked.{start_of, chunk_blocks, asks_for, inside_by, phase_at}

pub chunk_short : (c at b : ℕ) → at ≤ b → b - at < c → b - at + 1 ≡ chunk_blocks c at b
unfolding chunk_blocks
chunk_short c at b h l =
    pick_cases (λ (x : ℕ). b - at + 1 ≡ x) (leb c (b + 1 - at)) (λ e. let f = leb-true c (b + 1 - at) e in omega arith) (λ e. omega arith)

pub chunk_full : (c at b : ℕ) → at ≤ b → c ≤ b - at → c ≡ chunk_blocks c at b
unfolding chunk_blocks
chunk_full c at b h l = rw (le-leb c (b + 1 - at) (omega arith))

pub chunk_none : (c at b : ℕ) → b < at → 0 ≡ chunk_blocks c at b
unfolding chunk_blocks
chunk_none c at b h =
    pick_cases (λ (x : ℕ). 0 ≡ x) (leb c (b + 1 - at)) (λ e. let f = leb-true c (b + 1 - at) e in omega arith) (λ e. omega arith)

-- a chunk has no more than c blocks, and ends within the area
pub chunk_most : (c at b : ℕ) → chunk_blocks c at b ≤ c
unfolding chunk_blocks
chunk_most c at b = smaller_left c (b + 1 - at)

pub chunk_ends : (c at b : ℕ) → at ≤ b → at + chunk_blocks c at b ≤ b + 1
unfolding chunk_blocks
chunk_ends c at b h = let f = smaller_right c (b + 1 - at) in omega arith

-- and has one at least
pub chunk_some : (c at b : ℕ) → 1 ≤ c → at ≤ b → 1 ≤ chunk_blocks c at b
unfolding chunk_blocks
chunk_some c at b l h = pick_cases (λ (x : ℕ). 1 ≤ x) (leb c (b + 1 - at)) (λ e. l) (λ e. omega arith)

-- an awaited chunk starts within the area, where its command starts or right after the header that comes with it
pub record Inside (p : Plan) (last : List ℕ) (at : ℕ) : Type 0 where
  pub low : 1 ≤ at
  pub high : at ≤ area_last p last
  pub start : start_of p at + lead_of p ≡ at

started : (extended : Bool) (at : ℕ) → extended || eqb at 1 ≡ true → pick extended at 0 + pick extended 0 1 ≡ at
started true at e = omega arith
started false at e = let f = eqb-true at 1 e in omega arith

pub chunk_inside : (p : Plan) (last : List ℕ) (at : ℕ) → inside_by (Chunk at) p last ≡ true → Inside p last at
chunk_inside p last at e =
    let b = area_last p last in
    let w = and_left (leb 1 at && leb at b) (p.caps.extended || eqb at 1) e in
    record {
      low = leb-true 1 at (and_left (leb 1 at) (leb at b) w);
      high = leb-true at b (and_right (leb 1 at) (leb at b) w);
      start = started p.caps.extended at (and_right (leb 1 at && leb at b) (p.caps.extended || eqb at 1) e);
    }

-- what the chunk at a block asks for, with extended data and without
pub chunk_alone : (p : Plan) (last : List ℕ) (at : ℕ) {own : ℕ} → p.caps.extended ≡ true → own ≡ chunk_blocks (chunk_of p) at (area_last p last)
    → asked false 0 true at own ≡ asks_for (Chunk at) p last
chunk_alone p last at e f = rw (f, e, zero-add)

pub chunk_led : (p : Plan) (last : List ℕ) (at : ℕ) {own : ℕ} → p.caps.extended ≡ false → own ≡ chunk_blocks (chunk_of p) at (area_last p last)
    → asked false 0 true 0 (1 + own) ≡ asks_for (Chunk at) p last
chunk_led p last at e f = rw (f, e)

pub led_most : (p : Plan) (at b : ℕ) {own : ℕ} → p.caps.extended ≡ false → own ≡ chunk_blocks (chunk_of p) at b → own ≤ reach
led_most p at b e f = rw (f, e) (chunk_most reach at b)

-- the phase after c blocks more
pub phase_chunk : (at b : ℕ) → at ≤ b → Chunk at ≡ phase_at at b
unfolding phase_at
phase_chunk at b h = rw (le-leb at b h)

pub phase_close : (at b : ℕ) → b < at → Close false ≡ phase_at at b
unfolding phase_at
phase_close at b h = rw (lt-leb at b h)
