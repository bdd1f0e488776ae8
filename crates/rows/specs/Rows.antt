-- Document 01, "Rows on each side": the rows marked there, as one list and one statement.
-- Assumes nothing.
use Rattle.std.specs.Prelude.{ℕ, ◌≡◌, refl, List, [], ◌∷◌, ◌++◌, Bool, true, false, replicate}
use Rattle.choices.specs.Tests.{holds}
use Rattle.copies.specs.Parts.{zeros, put_at}
use Rattle.pages.specs.declared.Caps.{Caps}
use Rattle.pages.specs.Pages.{host_page, blocks_of, size_of}
use Rattle.lastblocks.specs.LastBlocks.{last_ok, greatest_of}
use Rattle.trimming.specs.Trimming.{top_of, trimmed_to, trim_of}
use Rattle.words.specs.declared.Words.{Words}
use Rattle.words.specs.Words.{taken, built_of}
use Rattle.header.specs.Header.{header_of}
use Rattle.records.specs.declared.Record.{Record}
use Rattle.records.specs.Records.{identity_ok, store_ok, controller_ok, agrees_with, host_fields, controller_fields, fields_for}
use Rattle.serving.specs.Serving.{window_of, page_bytes}
use Rattle.verdicts.specs.Verdicts.{candidate_ok, field_bad, last_after, command_answer}
use Rattle.plans.specs.Plans.{setup_answer}
use Rattle.phases.specs.Asked.{words_by}
use Rattle.collection.specs.Collection.{awaited_of, setup_of}
use Rattle.collection.specs.declared.Next.TheVariants.{Send}
use Rattle.controller.specs.Controller.{World, world, candidate_of, page_of, host_captured, before, sent_of, afterwards, answered, command_of}

-- ---- the world of the rows

-- DA4S, ETDAS and MCDAS as given; extended data and telemetry on
abbrev capable : Bool → Bool → Bool → Caps
capable da4s etdas mcdas = record { extended = true; telemetry = true; da4s = da4s; etdas = etdas; mcdas = mcdas }

-- a record with these last blocks and this generation on 07h, and nothing on 08h
abbrev own : Caps → List ℕ → ℕ → Record
own caps last generation = record {
  caps = caps;
  identity = record { oui = 0x123456; hostscope = 1; controllerscope = 1 };
  host = record { last = last; generation = generation; reason = zeros 128 };
  controller = record { last = zeros 4; generation = 0; tcda = 0; notice = false; reason = zeros 128 };
}

-- five blocks, block i filled with i
abbrev blocks : List ℕ
blocks = replicate 512 1 ++ (replicate 512 2 ++ (replicate 512 3 ++ (replicate 512 4 ++ replicate 512 5)))

-- host page (2,2,5,0), DA4S 0, size 3,072
abbrev host_world : World
host_world = world (own (capable false false false) (2 ∷ 2 ∷ 5 ∷ 0 ∷ []) 0) blocks []

-- a first word and an offset
abbrev words : ℕ → ℕ → Words
words cdw10 offset = record { cdw10 = cdw10; cdw11 = 0; cdw12 = offset; cdw13 = 0; cdw14 = 0 }

-- ---- the rows

-- a row, by what it speaks of
pub data Row : Type 0 where
  -- a read of the host page into a buffer of 1,024 nines: CDW10, the offset, the answer and the buffer afterwards
  reads : ℕ → ℕ → ℕ → List ℕ → Row
  -- a capture on 07h takes one generation to another
  counts : ℕ → ℕ → Row
  -- a create with this CDW10, under these capabilities, stores these last blocks of the candidate (2,2,5,9)
  stores : Caps → ℕ → List ℕ → Row
  -- a create with this CDW10 and these capabilities is answered this
  creates : Caps → ℕ → ℕ → Row
  -- the first command of a collection of 07h with create, under these capabilities, of this area: CDW10
  first_word : Caps → ℕ → ℕ → Row

-- what a row says
abbrev pub Says : Row → Type 0
Says (reads cdw10 offset answer buf) =
    ((command_of host_world (candidate_of [] [] []) (words cdw10 offset) (replicate 1024 9)).answer ≡ answer)
    × ((command_of host_world (candidate_of [] [] []) (words cdw10 offset) (replicate 1024 9)).buf ≡ buf)
Says (counts old new) =
    (command_of (world (own (capable false false false) (zeros 4) old) [] []) (candidate_of (zeros 4) [] (zeros 128)) (words 0x007F8107 0) (replicate 512 9)
    ).world.own.host.generation
    ≡ new
Says (stores caps cdw10 stored) =
    (command_of (world (own caps (zeros 4) 0) (zeros 4608) []) (candidate_of (2 ∷ 2 ∷ 5 ∷ 9 ∷ []) (replicate 4608 7) (zeros 128)) (words cdw10 0) (replicate 512 9)
    ).world.own.host.last
    ≡ stored
Says (creates caps cdw10 answer) =
    (command_of (world (own caps (zeros 4) 0) [] []) (candidate_of (2 ∷ 2 ∷ 5 ∷ 9 ∷ []) [] []) (words cdw10 0) []).answer ≡ answer
Says (first_word caps area cdw10) =
    (setup_of (record { page = host_page; create = true; area = area; chunk = 1; attempts = 1; room = 0; caps = caps })).next ≡ Send (words cdw10 0)

-- what all rows of a list say
abbrev pub All : List Row → Type 0
All [] = Unit
All (r ∷ rs) = Says r × All rs

abbrev pub rows : List Row
rows =
    reads 0x007F8007 3072 0 (zeros 512 ++ replicate 512 9)
    ∷ reads 0x007F8007 3584 1 (replicate 1024 9)
    ∷ reads 0x007F8007 256 1 (replicate 1024 9)
    ∷ reads 0x00FF8007 2560 0 (replicate 512 5 ++ zeros 512)
    ∷ reads 0x007E8007 0 1 (replicate 1024 9)
    ∷ counts 255 0
    ∷ stores (capable true true true) 0x007F8507 (2 ∷ 2 ∷ 2 ∷ 2 ∷ [])
    ∷ stores (capable true true true) 0x007F8107 (2 ∷ 2 ∷ 5 ∷ 9 ∷ [])
    ∷ creates (capable true true true) 0x007F8B07 1
    ∷ stores (capable false true true) 0x007F8107 (2 ∷ 2 ∷ 5 ∷ 0 ∷ [])
    ∷ first_word (capable false false true) 3 0x007F8707
    ∷ []

pub rows_hold : All rows
unfolding
    holds put_at last_ok greatest_of blocks_of size_of top_of trimmed_to trim_of taken built_of header_of identity_ok store_ok controller_ok agrees_with host_fields controller_fields fields_for
    window_of page_bytes candidate_ok field_bad last_after command_answer page_of host_captured before sent_of afterwards answered command_of setup_answer words_by awaited_of
    setup_of
rows_hold = ((refl, refl), ((refl, refl), ((refl, refl), ((refl, refl), ((refl, refl), (refl, (refl, (refl, (refl, (refl, (refl, tt)))))))))))
