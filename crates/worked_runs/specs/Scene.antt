-- Drives, plans and what happens between commands, for the runs that are worked out.
-- Assumes nothing.
use Rattle.std.specs.Prelude.{ℕ, zero, suc, List, [], ◌∷◌, ◌++◌, true, false, replicate}
use Rattle.copies.specs.Parts.{zeros}
use Rattle.pages.specs.declared.Caps.{Caps}
use Rattle.words.specs.declared.Words.{Words}
use Rattle.plans.specs.declared.Plan.{Plan}
use Rattle.controller.specs.Controller.{World, world, Candidate, candidate_of}
use Rattle.sources.specs.Source.{Turn}
use Rattle.demand3.specs.Bench.{Event, Loan, controller_source}

-- a block of this byte
abbrev pub block_of : ℕ → List ℕ
block_of b = replicate 512 b

abbrev pub caps : Caps
caps = record { extended = true; telemetry = true; da4s = false; etdas = false; mcdas = false }

-- without extended data
abbrev pub old_caps : Caps
old_caps = record { extended = false; telemetry = true; da4s = false; etdas = false; mcdas = false }

-- 08h has two blocks, of fives and of sixes, and its generation is 255; 07h has none
abbrev pub drive_of : Caps → World
drive_of able = world (record {
  caps = able;
  identity = record { oui = 0; hostscope = 1; controllerscope = 1 };
  host = record { last = zeros 4; generation = 0; reason = zeros 128 };
  controller = record { last = 2 ∷ 2 ∷ 2 ∷ 0 ∷ []; generation = 255; tcda = 1; notice = true; reason = zeros 128 };
}) [] (block_of 5 ++ block_of 6)

abbrev pub drive : World
drive = drive_of caps

abbrev pub old_drive : World
old_drive = drive_of old_caps

-- without extended data, and 08h has 32 blocks, of fives
abbrev pub far_drive : World
far_drive = world (record {
  caps = old_caps;
  identity = record { oui = 0; hostscope = 1; controllerscope = 1 };
  host = record { last = zeros 4; generation = 0; reason = zeros 128 };
  controller = record { last = 32 ∷ 32 ∷ 32 ∷ 0 ∷ []; generation = 255; tcda = 1; notice = true; reason = zeros 128 };
}) [] (replicate 16384 5)

-- 07h has five blocks, of ones, and 08h none
abbrev pub host_drive : World
host_drive = world (record {
  caps = caps;
  identity = record { oui = 0; hostscope = 1; controllerscope = 1 };
  host = record { last = 5 ∷ 5 ∷ 5 ∷ 0 ∷ []; generation = 9; reason = zeros 128 };
  controller = record { last = zeros 4; generation = 0; tcda = 0; notice = false; reason = zeros 128 };
}) (replicate 2560 1) []

-- 07h has these last blocks, generation, reason and store, and 08h none
abbrev pub small_drive_of : (last : List ℕ) (generation : ℕ) (reason store : List ℕ) → World
small_drive_of last generation reason store = world (record {
  caps = caps;
  identity = record { oui = 0; hostscope = 1; controllerscope = 1 };
  host = record { last = last; generation = generation; reason = reason };
  controller = record { last = zeros 4; generation = 0; tcda = 0; notice = false; reason = zeros 128 };
}) store []

-- with a store of two blocks, of ones and of twos
abbrev pub small_drive : List ℕ → World
small_drive last = small_drive_of last 9 (replicate 128 4) (block_of 1 ++ block_of 2)

-- what a capture takes: two blocks, of sevens and of eights
abbrev pub newer : Candidate
newer = candidate_of (2 ∷ 2 ∷ 2 ∷ 2 ∷ []) (block_of 7 ++ block_of 8) (zeros 128)

-- what a create of another host takes: five blocks, of threes
abbrev pub created : Candidate
created = candidate_of (5 ∷ 5 ∷ 5 ∷ 5 ∷ []) (replicate 2560 3) (zeros 128)

-- another host's create: a header of 512 bytes
abbrev pub create_words : Words
create_words = record { cdw10 = 0x007F8107; cdw11 = 0; cdw12 = 0; cdw13 = 0; cdw14 = 0 }

-- what each command of a run is lent: the candidate, which no command of these runs reads, and a buffer
abbrev pub lent_of : ℕ → Loan
lent_of bytes = record { candidate = newer; buf = zeros bytes }

-- area 1 of 08h, a block a command, into a copy of two blocks
abbrev pub scene_plan : ℕ → Plan
scene_plan attempts = record { page = 8; create = false; area = 1; chunk = 1; attempts = attempts; room = 1024; caps = caps }

-- the same without extended data
abbrev pub old_plan : ℕ → Plan
old_plan attempts = record { page = 8; create = false; area = 1; chunk = 0; attempts = attempts; room = 1024; caps = old_caps }

-- area 1 of 07h, two blocks a command, into a copy of six blocks
abbrev pub host_plan : Plan
host_plan = record { page = 7; create = false; area = 1; chunk = 2; attempts = 2; room = 3072; caps = caps }

-- an area of 07h, so many blocks a command, so many attempts, into a copy of two blocks
abbrev pub small_plan : (area chunk attempts : ℕ) → Plan
small_plan area chunk attempts = record { page = 7; create = false; area = area; chunk = chunk; attempts = attempts; room = 1024; caps = caps }

-- what stood in a copy before
abbrev pub stale : ℕ → List ℕ
stale bytes = replicate bytes 9

-- so many turns in which nothing happens, with a buffer of this many bytes
unfoldable pub quiet : (page bytes n : ℕ) → List (Turn (controller_source page))
quiet page bytes zero = []
quiet page bytes (suc n) = record { events = []; lent = lent_of bytes } ∷ quiet page bytes n

-- these events, and then so many commands
abbrev pub at_once : (page bytes : ℕ) → List Event → ℕ → List (Turn (controller_source page))
at_once page bytes es n = record { events = es; lent = lent_of bytes } ∷ quiet page bytes n

-- a chunk, these events, and then so many commands
abbrev pub after : (page bytes : ℕ) → List Event → ℕ → List (Turn (controller_source page))
after page bytes es n = record { events = []; lent = lent_of bytes } ∷ at_once page bytes es n
