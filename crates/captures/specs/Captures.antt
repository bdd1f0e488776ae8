-- Document 01, "Captures": what a capture stores of a candidate, and what an acknowledgement clears. Document 02, Q-1: what a drop does.
-- Assumes nothing.
use Rattle.std.specs.Prelude.{ℕ, ◌+◌, ◌*◌, ◌%◌, true, false, List, take}
use Rattle.copies.specs.Parts.{zeros, put_at}
use Rattle.pages.specs.Pages.{block}
use Rattle.records.specs.declared.Record.{Record}

-- a store with a candidate's first blocks, the rest as it was
abbrev pub kept_in : List ℕ → List ℕ → ℕ → List ℕ
kept_in store bytes blocks = put_at store 0 (take (block * blocks) bytes)

-- a candidate's reason, zeros after it; one of more than 128 bytes is not kept
abbrev pub reason_of : List ℕ → List ℕ
reason_of reason = put_at (zeros 128) 0 reason

-- up by one, and 255 is followed by 0
abbrev pub next_generation : ℕ → ℕ
next_generation g = (g + 1) % 256

-- the record with these last blocks and this reason captured on 07h
abbrev pub host_taken : Record → List ℕ → List ℕ → Record
host_taken r last reason = record {
  caps = r.caps;
  identity = r.identity;
  host = record { last = last; generation = next_generation r.host.generation; reason = reason };
  controller = r.controller;
}

-- and on 08h: TCDA and the notice are set
abbrev pub controller_taken : Record → List ℕ → List ℕ → Record
controller_taken r last reason = record {
  caps = r.caps;
  identity = r.identity;
  host = r.host;
  controller = record { last = last; generation = next_generation r.controller.generation; tcda = 1; notice = true; reason = reason };
}

-- the record with TCDA, the notice and the four last blocks of 08h cleared; reason and generation stay
abbrev pub cleared_of : Record → Record
cleared_of r = record {
  caps = r.caps;
  identity = r.identity;
  host = r.host;
  controller = record { last = zeros 4; generation = r.controller.generation; tcda = 0; notice = false; reason = r.controller.reason };
}

-- the record with the four last blocks and the reason of 07h at zero; the generation stays, and so does 08h
abbrev pub dropped_of : Record → Record
dropped_of r = record {
  caps = r.caps;
  identity = r.identity;
  host = record { last = zeros 4; generation = r.host.generation; reason = zeros 128 };
  controller = r.controller;
}
