-- Document 01, "Host: header check and collection", and document 02, Q-10, on what each phase awaits: the command, the length of its data, and where a chunk may start.
-- B is the wanted area's last block, c the blocks of a chunk.
-- Assumes nothing.
use Rattle.std.specs.Prelude.{ℕ, ◌+◌, ◌-◌, ◌*◌, List, Bool, true, false, ◌&&◌, ◌||◌, drop, leb, eqb}
use Rattle.choices.specs.Choice.{pick, smaller}
use Rattle.pages.specs.Pages.{block}
use Rattle.words.specs.Words.{built_of}
use Rattle.words.specs.Words.{Built}
use Rattle.words.specs.declared.Words.{Words}
use Rattle.plans.specs.declared.Plan.{Plan}
use Rattle.plans.specs.Plans.{area_last, fits, chunk_of, lead_of}
use Rattle.words.specs.declared.Ask.{Ask}
use Rattle.phases.specs.declared.Due.{Due}
use Rattle.phases.specs.declared.Phase.{Phase}
use Rattle.phases.specs.declared.Phase.TheVariants.{First, Chunk, Close, Ack, Ended}
use Rattle.phases.specs.Phases.{asked}

-- the block where the command of the chunk at a block starts: that one, and in an old run the header
abbrev pub start_of : Plan → ℕ → ℕ
start_of p at = pick p.caps.extended at 0

-- the chunk in what its command brings
abbrev pub chunk_in : Plan → List ℕ → List ℕ
chunk_in p d = drop (block * lead_of p) d

-- the blocks of the chunk at a block: c, or what is left up to B
unfoldable pub chunk_blocks : ℕ → ℕ → ℕ → ℕ
chunk_blocks c at b = smaller c (b + 1 - at)

-- MCDA of the first command: the wanted area with create, if MCDA is honoured
abbrev pub mcda_of : Plan → ℕ
mcda_of p = pick (p.create && p.caps.mcdas) p.area 0

-- what each phase asks for: all but a chunk read the header alone, RAE is 0 in the acknowledgement alone, and nothing is asked for after the ending
--                                   create        MCDA    RAE offset blocks
abbrev pub asks_for : Phase → Plan → List ℕ → Ask
asks_for First p last = asked p.create (mcda_of p) true 0 1
asks_for (Chunk at) p last = asked false 0 true (start_of p at) (lead_of p + chunk_blocks (chunk_of p) at (area_last p last))
asks_for (Close after) p last = asked false 0 true 0 1
asks_for Ack p last = asked false 0 false 0 1
asks_for Ended p last = asked false 0 true 0 0

-- the builder's answer to what a page is asked for
abbrev pub built_for : ℕ → Ask → Built
built_for page a = built_of page a.create a.mcda a.rae a.offset a.blocks

-- the awaited command; after the ending it is none, since the builder refuses no blocks with five zero words
unfoldable pub words_by : Phase → Plan → List ℕ → Words
words_by f p last = (built_for p.page (asks_for f p last)).words

-- the bytes that a success brings
abbrev pub expected_by : Phase → Plan → List ℕ → ℕ
expected_by f p last = block * (asks_for f p last).blocks

-- an awaited chunk starts within the area, and in an old run right after the header
abbrev pub inside_by : Phase → Plan → List ℕ → Bool
inside_by First p last = true
inside_by (Chunk at) p last = (leb 1 at && leb at (area_last p last)) && (p.caps.extended || eqb at 1)
inside_by (Close after) p last = true
inside_by Ack p last = true
inside_by Ended p last = true

-- the header's area can be collected, and an awaited chunk starts within that area
unfoldable pub within_by : Phase → Plan → List ℕ → Bool
within_by f p last = fits p last && inside_by f p last

-- what a completion is judged by before anything else
unfoldable pub due_by : Phase → Plan → List ℕ → Due
due_by f p last = record { bytes = expected_by f p last; within = within_by f p last }

-- the chunk at a block, or the closing header where the area ends before it
unfoldable pub phase_at : ℕ → ℕ → Phase
phase_at at b = pick (leb at b) (Chunk at) (Close false)
