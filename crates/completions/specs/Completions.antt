-- Document 01, "Host: header check and collection", on what is seen of a completion's data.
-- Assumes nothing.
use Rattle.std.specs.Prelude.{ℕ, List, Bool, Some, length, get_or, eqb}
use Rattle.choices.specs.Choice.{pick}
use Rattle.copies.specs.Parts.{zeros}
use Rattle.answers.specs.Answers.{success}
use Rattle.pages.specs.Pages.{block, per_page}
use Rattle.header.specs.declared.Fault.TheVariants.{Length}
use Rattle.header.specs.Header.{check_of}
use Rattle.plans.specs.declared.Plan.{Plan}
use Rattle.phases.specs.declared.Phase.{Phase}
use Rattle.phases.specs.declared.Phase.TheVariants.{First, Chunk, Close, Ack, Ended}
use Rattle.completions.specs.declared.Seen.{Seen}
use Rattle.completions.specs.Plan.{no_data, plan_by}

-- the page's own generation byte: 381 on 07h, 383 on 08h
unfoldable pub generation_of : ℕ → List ℕ → ℕ
generation_of page d = pick (eqb (length d) block) (per_page page (get_or d 381 0) (get_or d 383 0)) 0

-- of a first header: what its plan says
unfoldable pub planned_seen : Plan → List ℕ → Seen
planned_seen p d = record {
  answer = (plan_by p d).answer;
  fault = (plan_by p d).fault;
  tcda = (plan_by p d).fields.tcda;
  generation = generation_of p.page d;
  last = (plan_by p d).fields.last;
}

-- of a later header, or of the acknowledgement's data: what the check finds
unfoldable pub seen_of : Plan → List ℕ → Seen
seen_of p d = record {
  answer = success;
  fault = (check_of p.page p.caps.da4s d).fault;
  tcda = (check_of p.page p.caps.da4s d).fields.tcda;
  generation = generation_of p.page d;
  last = (check_of p.page p.caps.da4s d).fields.last;
}

-- of a chunk's, at which nobody looks
abbrev pub no_seen : Seen
no_seen = record { answer = success; fault = Some Length; tcda = 0; generation = 0; last = zeros 4 }

unfoldable pub look_by : Phase → Plan → List ℕ → Seen
look_by First p d = planned_seen p d
look_by (Chunk at) p d = no_seen
look_by (Close after) p d = seen_of p d
look_by Ack p d = seen_of p d
look_by Ended p d = no_seen

-- an 08h header that shows no data
abbrev pub shows_none : Plan → Seen → Bool
shows_none p h = no_data p.page h.tcda
