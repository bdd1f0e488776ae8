-- A controller's record: document 01, "Answer numbers", when it disagrees with the lent stores (4), and "Header bytes", what a header shows.
-- Assumes nothing.
use Rattle.std.specs.Prelude.{ℕ, ◌*◌, List, [], ◌∷◌, Bool, false, not, ◌||◌, get_or, ltb, leb, eqb}
use Rattle.choices.specs.Tests.{holds}
use Rattle.copies.specs.Parts.{zeros}
use Rattle.pages.specs.Pages.{host_page, controller_page, block, per_page, blocks_of, size_of}
use Rattle.lastblocks.specs.LastBlocks.{last_ok, greatest_of}
use Rattle.pages.specs.declared.Caps.{Caps}
use Rattle.header.specs.declared.Fields.{Fields}
use Rattle.records.specs.declared.Identity.{Identity}
use Rattle.records.specs.declared.Record.{Record}

-- both scopes are 1 or 2, and the OUI has 24 bits
unfoldable pub identity_ok : Identity → Bool
identity_ok i =
    holds
    ((eqb i.hostscope 1 || eqb i.hostscope 2)
    ∷ (eqb i.controllerscope 1 || eqb i.controllerscope 2)
    ∷ ltb i.oui 16777216
    ∷ [])

-- last blocks keep the rule, and their store is no shorter than the greatest of them
unfoldable pub store_ok : Bool → List ℕ → ℕ → Bool
store_ok da4s last store = holds (last_ok da4s last ∷ leb (block * greatest_of last) store ∷ [])

-- on 08h besides: TCDA is at most 1; where it is 0 all last blocks are 0, and where it is 1 a3 is not
unfoldable pub controller_ok : Bool → ℕ → List ℕ → ℕ → Bool
controller_ok da4s tcda last store =
    holds
    (store_ok da4s last store
    ∷ leb tcda 1
    ∷ (not (eqb tcda 0) || eqb (greatest_of last) 0)
    ∷ (not (eqb tcda 1) || ltb 0 (get_or last 2 0))
    ∷ [])

-- the record agrees with host and controller stores of these many bytes
unfoldable pub agrees_with : Record → ℕ → ℕ → Bool
agrees_with r hostStore controllerStore =
    holds
    (store_ok r.caps.da4s r.host.last hostStore
    ∷ controller_ok r.caps.da4s r.controller.tcda r.controller.last controllerStore
    ∷ identity_ok r.identity
    ∷ [])

-- what an 07h header shows
unfoldable pub host_fields : Record → Fields
host_fields r = record {
  page = host_page;
  oui = r.identity.oui;
  last = r.host.last;
  scope = r.identity.hostscope;
  hostgeneration = r.host.generation;
  tcda = r.controller.tcda;
  controllergeneration = r.controller.generation;
  reason = r.host.reason;
}

-- what an 08h header shows
unfoldable pub controller_fields : Record → Fields
controller_fields r = record {
  page = controller_page;
  oui = r.identity.oui;
  last = r.controller.last;
  scope = r.identity.controllerscope;
  hostgeneration = 0;
  tcda = r.controller.tcda;
  controllergeneration = r.controller.generation;
  reason = r.controller.reason;
}

-- what a header of the page shows
unfoldable pub fields_for : ℕ → Record → Fields
fields_for page r = per_page page (host_fields r) (controller_fields r)

-- the page's blocks after its header, and its size in bytes
abbrev pub blocks_for : ℕ → Record → ℕ
blocks_for page r = blocks_of r.caps (fields_for page r).last

abbrev pub size_for : ℕ → Record → ℕ
size_for page r = size_of r.caps (fields_for page r).last

-- a record before any capture
unfoldable pub fresh_of : Caps → Identity → Record
fresh_of caps identity = record {
  caps = caps;
  identity = identity;
  host = record { last = zeros 4; generation = 0; reason = zeros 128 };
  controller = record { last = zeros 4; generation = 0; tcda = 0; notice = false; reason = zeros 128 };
}
