-- No controller can keep a collection from ending, and none can bring it into a state that gets 13: for any completions at all, each state
-- of a run keeps `Reached`. An attempt sends its chunks and a closing header, which is the next attempt's header; the first header is one
-- more, and so is the acknowledgement.
-- What is proved of these words stands in proofs/Bound.antt.
-- Assumes nothing.
use Rattle.std.specs.Prelude.{ℕ, ◌+◌, ◌-◌, ◌*◌, ◌≤◌, ◌≡◌, List, true}
use native.Mathlib.Omega.{arith}
use Rattle.std.proofs.Math.Nat.{div-eq-sub-div}
use Rattle.choices.specs.Choice.{pick}
use Rattle.answers.specs.Answers.{success}
use Rattle.plans.specs.declared.Plan.{Plan}
use Rattle.phases.specs.declared.Phase.{Phase}
use Rattle.phases.specs.declared.Phase.TheVariants.{First, Chunk, Close, Ack, Ended}
use Rattle.phases.specs.Phases.{silent_by}
use Rattle.plans.specs.Plans.{setup_answer, area_last, fits, chunk_of, chunks_from}
use Rattle.phases.specs.Asked.{inside_by}
use Rattle.collection.specs.Collection.{setup_of}
use Rattle.collection.specs.declared.Collection.{Collection}
use Rattle.runs.specs.Run.{Completion, after, most_chunks, headers_of, acknowledging}

-- a chunk is one of those that are left
pub chunks_less : (c at b : ℕ) → 1 ≤ c → at ≤ b → chunks_from c at b ≡ chunks_from c (at + c) b + 1
chunks_less c at b l h =
    let e : b + c - at - c ≡ b + c - (at + c) = omega arith in
    let d = div-eq-sub-div {m = c} {n = b + c - at} l (omega arith) in
    rw e at d

-- the commands that the attempt may still send after the awaited one
abbrev pub due_by : Phase → ℕ → Plan → List ℕ → ℕ
due_by First most p last = most + 1
due_by (Chunk at) most p last = chunks_from (chunk_of p) at (area_last p last)
due_by (Close after) most p last = 0
due_by Ack most p last = 0
due_by Ended most p last = 0

-- the first header and, once it may have been sent, the acknowledgement
abbrev pub extra_by : Phase → Plan → ℕ
extra_by f p = 1 + pick (silent_by f) (acknowledging p) 0

pub record Reached (most : ℕ) (s : Collection) : Type 0 where
  pub plan : setup_answer s.plan ≡ success
  pub low : 1 ≤ s.attempt.number
  pub high : s.attempt.number ≤ s.plan.attempts
  pub area : fits s.plan s.attempt.last ≡ true
  pub inside : inside_by s.phase s.plan s.attempt.last ≡ true
  pub few : s.count + due_by s.phase most s.plan s.attempt.last ≤ extra_by s.phase s.plan + s.attempt.number * (most + 1)

-- C: the most chunks that any header of the run calls for
abbrev pub chunks_in : Plan → List Completion → ℕ
chunks_in p ks = most_chunks p (headers_of (setup_of p).state ks)
