-- What the computed runs are made of: plans, headers and replies.
-- Assumes nothing.
use Rattle.std.specs.Prelude.{ℕ, List, [], ◌∷◌, ◌++◌, Bool, true, false, replicate}
use Rattle.copies.specs.Parts.{zeros}
use Rattle.pages.specs.Pages.{host_page}
use Rattle.plans.specs.declared.Plan.{Plan}
use Rattle.runs.specs.Held.{Reply}

-- without create, of a controller with extended data or without, and with three areas
abbrev pub example_plan : (extended : Bool) (page area chunk attempts room : ℕ) → Plan
example_plan extended page area chunk attempts room = record {
  page = page;
  create = false;
  area = area;
  chunk = chunk;
  attempts = attempts;
  room = room;
  caps = record { extended = extended; telemetry = true; da4s = false; etdas = false; mcdas = false };
}

-- a header of 07h: areas 1 to 3 end at the same block
abbrev pub header : ℕ → ℕ → List ℕ
header generation last =
    (host_page ∷ zeros 7) ++ (last ∷ 0 ∷ last ∷ 0 ∷ last ∷ 0 ∷ []) ++ zeros 366 ++ (1 ∷ generation ∷ 0 ∷ 0 ∷ []) ++ zeros 128

abbrev pub good : List ℕ → Reply
good d = record { ok = true; bytes = d }

abbrev pub refused : Reply
refused = record { ok = false; bytes = [] }

-- a block of the same bytes
abbrev pub filled : ℕ → List ℕ
filled n = replicate 512 n
