-- The whole listing of document 01, 08h with B = 7, c = 3 and no capture, and that of an old run with B = 31, from the definitions: the phases that good
-- completions lead through, and the words of each.
-- Assumes nothing.
use Rattle.std.specs.Prelude.{ℕ, ◌≡◌, refl, List, [], ◌∷◌, true, false}
use Rattle.choices.specs.Tests.{holds}
use Rattle.answers.specs.Answers.{success, no_room, out_of_reach}
use Rattle.pages.specs.Pages.{host_page, controller_page}
use Rattle.words.specs.declared.Words.{Words}
use Rattle.words.specs.Words.{taken, built_of}
use Rattle.plans.specs.declared.Plan.{Plan}
use Rattle.phases.specs.declared.Phase.{Phase}
use Rattle.phases.specs.declared.Phase.TheVariants.{First, Chunk, Close, Ack}
use Rattle.plans.specs.Plans.{setup_answer, fits_room, in_reach, area_answer}
use Rattle.phases.specs.Asked.{chunk_blocks, words_by, phase_at}
use Rattle.turns.specs.Turns.{opening_of, following_of}
use Rattle.runs.specs.Examples.{example_plan}

abbrev plan : Plan
plan = example_plan true controller_page 1 3 1 4096

abbrev last : List ℕ
last = 7 ∷ 9 ∷ 9 ∷ 0 ∷ []

-- the header's opening, and what follows each good chunk
pub chunks : (opening_of plan last ≡ Chunk 1) × (following_of plan last 1 ≡ Chunk 4) × (following_of plan last 4 ≡ Chunk 7) × (following_of plan last 7 ≡ Close false)
unfolding phase_at
chunks = (refl, refl, refl, refl)

abbrev words : ℕ → ℕ → ℕ → ℕ → ℕ → Words
words cdw10 cdw11 cdw12 cdw13 cdw14 = record { cdw10 = cdw10; cdw11 = cdw11; cdw12 = cdw12; cdw13 = cdw13; cdw14 = cdw14 }

abbrev of : Plan → List ℕ → List Phase → List Words
of p last [] = []
of p last (f ∷ fs) = words_by f p last ∷ of p last fs

pub listing : of plan last (First ∷ Chunk 1 ∷ Chunk 4 ∷ Chunk 7 ∷ Close false ∷ Ack ∷ [])
    ≡ words 0x007F8008 0x00000000 0x00000000 0x00000000 0x00000000
    ∷ words 0x017F8008 0x00000000 0x00000200 0x00000000 0x00000000
    ∷ words 0x017F8008 0x00000000 0x00000800 0x00000000 0x00000000
    ∷ words 0x007F8008 0x00000000 0x00000E00 0x00000000 0x00000000
    ∷ words 0x007F8008 0x00000000 0x00000000 0x00000000 0x00000000
    ∷ words 0x007F0008 0x00000000 0x00000000 0x00000000 0x00000000
    ∷ []
unfolding words_by built_of taken holds chunk_blocks
listing = refl

-- ---- without extended data: header and blocks together, from offset 0

abbrev old : ℕ → Plan
old page = example_plan false page 3 0 1 15872

abbrev reached : List ℕ
reached = 7 ∷ 9 ∷ 31 ∷ 0 ∷ []

pub old_phases : (setup_answer (old controller_page) ≡ success) × (opening_of (old controller_page) reached ≡ Chunk 1) × (following_of (old controller_page) reached 1 ≡ Close false)
unfolding setup_answer holds phase_at
old_phases = (refl, refl, refl)

pub old_listing : of (old controller_page) reached (First ∷ Chunk 1 ∷ Close false ∷ Ack ∷ [])
    ≡ words 0x007F8008 0x00000000 0x00000000 0x00000000 0x00000000
    ∷ words 0x0FFF8008 0x00000000 0x00000000 0x00000000 0x00000000
    ∷ words 0x007F8008 0x00000000 0x00000000 0x00000000 0x00000000
    ∷ words 0x007F0008 0x00000000 0x00000000 0x00000000 0x00000000
    ∷ []
unfolding words_by built_of taken holds chunk_blocks
old_listing = refl

pub old_host : of (old host_page) reached (Chunk 1 ∷ []) ≡ words 0x0FFF8007 0x00000000 0x00000000 0x00000000 0x00000000 ∷ []
unfolding words_by built_of taken holds chunk_blocks
old_host = refl

-- an area out of reach is 19 though it is larger than the copy too, and one in reach that is larger is 8
pub old_answers : (area_answer (old host_page) (7 ∷ 9 ∷ 32 ∷ 0 ∷ []) ≡ out_of_reach) × (area_answer (old host_page) reached ≡ success)
    × (area_answer (example_plan false host_page 1 0 1 5120) (20 ∷ 20 ∷ 20 ∷ 0 ∷ []) ≡ no_room)
unfolding area_answer in_reach fits_room
old_answers = (refl, refl, refl)
