-- Document 01, "Command words": what five words ask for, and the words that the builder gives.
--     CDW10: bits 7:0 page identifier; bit 8 create (07h only); bits 11:9 MCDA; bit 15 retain event (RAE);
--            bits 31:16 low half of the dword count. CDW11 bits 15:0: its high half.
--     CDW12, CDW13: offset, low and high 32 bits. CDW14 bit 23: offset type.
-- Assumes nothing.
use Rattle.std.specs.Result.{result_unwrap_or}
use Rattle.std.specs.Prelude.{Result, ℕ, zero, suc, ◌+◌, ◌-◌, ◌*◌, ◌/◌, ◌%◌, ◌^◌, [], ◌∷◌, Bool, not, ◌&&◌, ◌||◌, leb, eqb}
use Rattle.choices.specs.Choice.{pick}
use Rattle.choices.specs.Tests.{holds}
use Rattle.answers.specs.declared.Refusal.{Refusal}
use Rattle.answers.specs.Answers.{success, bad_setup, result_number}
use Rattle.pages.specs.Pages.{host_page, controller_page, telemetry_page, block, most4}
use Rattle.words.specs.declared.Words.{Words}
use Rattle.words.specs.declared.Command.{Command}

-- bits high:low of x
abbrev pub bits : ℕ → ℕ → ℕ → ℕ
bits high zero x = x % 2 ^ (high + 1)
bits high (suc low) x = x / 2 ^ suc low % 2 ^ (high - low)

-- ---- reading

-- the bytes of a zero-based count of dwords: 127 means 128 dwords, 512 bytes
abbrev pub counted : ℕ → ℕ
counted n = 4 * (n + 1)

-- the transfer's bytes with extended data
abbrev pub long_bytes : Words → ℕ
long_bytes w = counted (bits 31 16 w.cdw10 + 65536 * bits 15 0 w.cdw11)

-- and without: only CDW10 bits 27:16 count
abbrev pub short_bytes : Words → ℕ
short_bytes w = counted (bits 27 16 w.cdw10)

-- the offset in bytes, its low and its high 32 bits
abbrev pub offset_of : Words → ℕ
offset_of w = w.cdw12 + 4294967296 * w.cdw13

-- what the words ask for
abbrev pub read_of : Bool → Words → Command
read_of extended w = record {
  page = bits 7 0 w.cdw10;
  create = eqb (bits 7 0 w.cdw10) host_page && eqb (bits 8 8 w.cdw10) 1;
  mcda = bits 11 9 w.cdw10;
  rae = eqb (bits 15 15 w.cdw10) 1;
  bytes = pick extended (long_bytes w) (short_bytes w);
  offset = offset_of w;
  indexed = eqb (bits 23 23 w.cdw14) 1;
}

-- ---- building

-- the most blocks of a command
abbrev pub most_blocks : ℕ
most_blocks = 8192

-- arguments that the builder takes: a page 07h or 08h, no create on 08h, MCDA at most 4 and 0 without create,
-- a length of 1 to 8,192 blocks and an offset of at most 1,048,576
unfoldable pub taken : ℕ → Bool → ℕ → ℕ → ℕ → Bool
taken page create mcda offset blocks =
    holds
    (telemetry_page page
    ∷ not (create && eqb page controller_page)
    ∷ leb mcda 4
    ∷ (create || eqb mcda 0)
    ∷ leb 1 blocks
    ∷ leb blocks most_blocks
    ∷ leb offset most4
    ∷ [])

-- the words of arguments that are taken
abbrev pub packed_of : ℕ → Bool → ℕ → Bool → ℕ → ℕ → Words
packed_of page create mcda rae offset blocks = record {
  cdw10 = page + pick create 256 0 + 512 * mcda + pick rae 32768 0 + 65536 * ((128 * blocks - 1) % 65536);
  cdw11 = (128 * blocks - 1) / 65536;
  cdw12 = block * offset;
  cdw13 = 0;
  cdw14 = 0;
}

abbrev pub no_words : Words
no_words = record { cdw10 = 0; cdw11 = 0; cdw12 = 0; cdw13 = 0; cdw14 = 0 }

-- the builder's answer, 0 or 13, with the words, which are zeros with 13
pub record Built : Type 0 where
  pub answer : ℕ
  pub words : Words

-- the builder's result as its answer with the words
abbrev pub built_told : Result Words Refusal → Built
built_told r = record { answer = result_number r; words = result_unwrap_or r no_words }

-- the builder's answer: 0 with the words, or 13 with five zero words
unfoldable pub built_of : ℕ → Bool → ℕ → Bool → ℕ → ℕ → Built
built_of page create mcda rae offset blocks =
    pick (taken page create mcda offset blocks)
    (record { answer = success; words = packed_of page create mcda rae offset blocks })
    (record { answer = bad_setup; words = no_words })
