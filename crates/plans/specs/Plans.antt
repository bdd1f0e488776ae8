-- Document 01, "Host: header check and collection", and document 02, Q-10, on what a collection is asked for: setup's limits, the wanted area, and its chunks. The
-- definitions stand in the paper's order. w is the wanted area, B its last block, c the blocks of a command with extended data. An old run is one without extended data:
-- its one chunk comes together with the header.
-- Assumes nothing.
use Rattle.std.specs.Prelude.{ℕ, ◌+◌, ◌-◌, ◌*◌, ◌/◌, ◌%◌, List, [], ◌∷◌, Bool, not, ◌&&◌, ◌||◌, leb, eqb}
use Rattle.choices.specs.Choice.{pick, first_that}
use Rattle.choices.specs.Tests.{holds}
use Rattle.answers.specs.Answers.{success, no_area4, no_room, bad_setup, out_of_reach}
use Rattle.pages.specs.Pages.{controller_page, telemetry_page, block, last_of, area4}
use Rattle.words.specs.Words.{most_blocks}
use Rattle.plans.specs.declared.Plan.{Plan}

-- ---- setup

-- the most attempts, and the most bytes of a copy
abbrev pub most_attempts : ℕ
most_attempts = 65535

abbrev pub most_room : ℕ
most_room = 536870912

-- c with extended data is 1 to 8,192; an old run, one without, has none
abbrev pub chunk_taken : Bool → ℕ → Bool
chunk_taken extended c = pick extended (leb 1 c && leb c most_blocks) (eqb c 0)

-- what setup asks for; 13 where one does not hold
abbrev pub plan_tests : Plan → List Bool
plan_tests p =
    telemetry_page p.page
    ∷ (leb 1 p.area && leb p.area 4)
    ∷ chunk_taken p.caps.extended p.chunk
    ∷ (leb 1 p.attempts && leb p.attempts most_attempts)
    ∷ (leb p.room most_room && eqb (p.room % block) 0)
    ∷ p.caps.telemetry
    ∷ not (p.create && eqb p.page controller_page)
    ∷ []

-- area 4 is wanted without DA4S and ETDAS
abbrev pub without_area4 : Plan → Bool
without_area4 p = eqb p.area 4 && not (area4 p.caps)

-- setup's answer: 6 comes after 13
unfoldable pub setup_answer : Plan → ℕ
setup_answer p = first_that ((not (holds (plan_tests p)), bad_setup) ∷ (without_area4 p, no_area4) ∷ []) success

-- ---- the wanted area

-- B, the wanted area's last block
abbrev pub area_last : Plan → List ℕ → ℕ
area_last p last = last_of p.area last

-- the bytes of the wanted area
abbrev pub area_bytes : Plan → List ℕ → ℕ
area_bytes p last = block * area_last p last

-- the wanted area fits the copy
unfoldable pub fits_room : Plan → List ℕ → Bool
fits_room p last = leb (area_bytes p last) p.room

-- the last block that a command without extended data reaches: 4,096 dwords are 32 blocks, and the header is one of them
abbrev pub reach : ℕ
reach = 31

-- the wanted area is in reach: always with extended data, and without it up to that block
unfoldable pub in_reach : Plan → List ℕ → Bool
in_reach p last = p.caps.extended || leb (area_last p last) reach

-- what speaks against collecting it, in this order, or 0
unfoldable pub area_answer : Plan → List ℕ → ℕ
area_answer p last = first_that ((not (in_reach p last), out_of_reach) ∷ (not (fits_room p last), no_room) ∷ []) success

-- nothing does
abbrev pub fits : Plan → List ℕ → Bool
fits p last = eqb (area_answer p last) success

-- ---- chunks

-- the blocks of a chunk: c, and in an old run all that are in reach
abbrev pub chunk_of : Plan → ℕ
chunk_of p = pick p.caps.extended p.chunk reach

-- the blocks that it reads before the chunk's own: in an old run the header
abbrev pub lead_of : Plan → ℕ
lead_of p = pick p.caps.extended 0 1

-- the chunks from a block on: ⌈(B + 1 - at) / c⌉
abbrev pub chunks_from : ℕ → ℕ → ℕ → ℕ
chunks_from c at b = (b + c - at) / c

-- the chunks of the wanted area: ⌈B / c⌉, and in an old run one, or none where B is 0
abbrev pub chunks_of : Plan → List ℕ → ℕ
chunks_of p last = chunks_from (chunk_of p) 1 (area_last p last)
