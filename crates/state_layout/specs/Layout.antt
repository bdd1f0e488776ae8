-- struct bumbazeel_state of include/bumbazeel.h, 56 bytes, field by field in the file's order.
-- Assumes nothing.
use Rattle.std.specs.Prelude.{ℕ, List, [], ◌∷◌, ◌++◌, Bool, true, false, ◌||◌, get_or, leb, eqb}
use Rattle.choices.specs.Choice.{pick, one}
use Rattle.choices.specs.Tests.{holds}
use Rattle.littleendian.specs.Numbers.{bytes_of, value_at}
use Rattle.arrays.specs.Arrays.{fours_of, fours_at}
use Rattle.plans.specs.declared.Plan.{Plan}
use Rattle.phases.specs.declared.Phase.{Phase}
use Rattle.phases.specs.declared.Phase.TheVariants.{First, Chunk, Close, Ack, Ended}
use Rattle.collection.specs.declared.Collection.{Collection}
use Rattle.shared_layouts.specs.Layouts.{most_caps, caps_byte, caps_of}

-- the number of a phase
abbrev pub phase_byte : Phase → ℕ
phase_byte First = 0
phase_byte (Chunk at) = 1
phase_byte (Close after) = pick after 3 2
phase_byte Ack = 4
phase_byte Ended = 5

-- the block where an awaited chunk starts; 0 in any other phase
abbrev pub chunk_start : Phase → ℕ
chunk_start First = 0
chunk_start (Chunk at) = at
chunk_start (Close after) = 0
chunk_start Ack = 0
chunk_start Ended = 0

-- the phase of a number and a block; a number over 5 is as 5
unfoldable pub phase_of : ℕ → ℕ → Phase
phase_of n at =
    pick (eqb n 0) First (pick (eqb n 1) (Chunk at) (pick (eqb n 2) (Close false) (pick (eqb n 3) (Close true) (pick (eqb n 4) Ack Ended))))

-- its first eight bytes
abbrev pub state_marks : Collection → List ℕ
state_marks s =
    phase_byte s.phase
    ∷ s.plan.page
    ∷ one s.plan.create
    ∷ s.plan.area
    ∷ caps_byte s.plan.caps
    ∷ s.attempt.generation
    ∷ 0
    ∷ 0
    ∷ []

-- a state's 56 bytes
unfoldable pub state_bytes : Collection → List ℕ
state_bytes s =
    state_marks s
    ++ bytes_of 4 s.plan.chunk  -- 8
    ++ bytes_of 4 s.plan.attempts  -- 12
    ++ bytes_of 4 s.attempt.number  -- 16
    ++ bytes_of 4 (chunk_start s.phase)  -- 20
    ++ bytes_of 8 s.plan.room  -- 24
    ++ bytes_of 8 s.count  -- 32
    ++ fours_of s.attempt.last  -- 40

-- the plan in a state's bytes, with the blocks of a chunk and the attempts
abbrev pub plan_from : List ℕ → ℕ → ℕ → Plan
plan_from b chunk attempts = record {
  page = get_or b 1 0;
  create = eqb (get_or b 2 0) 1;
  area = get_or b 3 0;
  chunk = chunk;
  attempts = attempts;
  room = value_at 8 24 b;
  caps = caps_of (get_or b 4 0);
}

-- the state that the bytes say
unfoldable pub state_at : List ℕ → Collection
state_at b = record {
  plan = plan_from b (value_at 4 8 b) (value_at 4 12 b);
  phase = phase_of (get_or b 0 0) (value_at 4 20 b);
  attempt = record { number = value_at 4 16 b; generation = get_or b 5 0; last = fours_at 40 b };
  count = value_at 8 32 b;
}

-- a state that some collection can have: a phase's number, create 0 or 1, capabilities of five bits, the zero bytes, and a block with a
-- chunk alone
unfoldable pub state_intact : List ℕ → Bool
state_intact b =
    holds
    (leb (get_or b 0 0) 5
    ∷ leb (get_or b 2 0) 1
    ∷ leb (get_or b 4 0) most_caps
    ∷ eqb (get_or b 6 0) 0
    ∷ eqb (get_or b 7 0) 0
    ∷ (eqb (get_or b 0 0) 1 || eqb (value_at 4 20 b) 0)
    ∷ [])
