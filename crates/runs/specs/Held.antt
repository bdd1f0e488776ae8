-- A run with its copy, which nobody else writes between the steps: what each byte of it is after any completions at all, from a drive that
-- lies as well as from one that doesn't.
-- What is proved of these words stands in proofs/Held.antt.
-- Assumes nothing.
use Prim.Native.Nat.{ℕ, ◌-◌}
use Rattle.std.specs.Prelude.{◌≡◌, Bool, not, ◌&&◌, drop}
use mathlib.Core.List.{List, [], ◌∷◌, ◌++◌}
use Rattle.std.proofs.Math.Bool.{true, false}
use Rattle.std.proofs.Math.ListN.{length}
use Rattle.choices.specs.Choice.{pick, larger}
use Rattle.copies.specs.Parts.{zeros}
use Rattle.plans.specs.declared.Plan.{Plan}
use Rattle.phases.specs.declared.Phase.{Phase}
use Rattle.phases.specs.declared.Phase.TheVariants.{First, Chunk, Close, Ack, Ended}
use Rattle.phases.specs.Phases.{ack_by}
use Rattle.plans.specs.Plans.{area_bytes}
use Rattle.phases.specs.Asked.{chunk_in}
use Rattle.turns.specs.Turns.{good}
use Rattle.collection.specs.Collection.{setup_of, step_of, copy_after}
use Rattle.collection.specs.declared.Collection.{Collection}
use Rattle.collection.specs.declared.Finish.{Finish}
use Rattle.collection.specs.Told.{Next}
use Rattle.collection.specs.declared.Next.TheVariants.{Send, End as Ends, Refuse}
use Rattle.collection.specs.Told.{Stepped}
use Rattle.runs.specs.Run.{Completion, after}

-- what came for a command: a success or a refusal, and data
pub record Reply : Type 0 where
  pub ok : Bool
  pub bytes : List ℕ

-- the completions of a run whose copy has n bytes
abbrev pub lent : ℕ → Reply → Completion
lent n k = record { ok = k.ok; bytes = k.bytes; copy = n }

abbrev pub lent_all : ℕ → List Reply → List Completion
lent_all n [] = []
lent_all n (k ∷ ks) = lent n k ∷ lent_all n ks

-- a run so far: its state, its copy, the data of each attempt's good chunks in order, without the blocks that came before them, the last attempt in front, and
-- the endings given
pub record Held : Type 0 where
  pub state : Collection
  pub copy : List ℕ
  pub attempts : List (List ℕ)
  pub endings : List Finish

-- a command was given, so the completion was taken
abbrev pub sent : Next → Bool
sent (Send w) = true
sent (Ends e) = false
sent (Refuse n) = false

-- the ending that was given
abbrev pub ended : Next → List Finish
ended (Send w) = []
ended (Ends e) = e ∷ []
ended (Refuse n) = []

-- data added to the last attempt's
abbrev pub onto : List ℕ → List (List ℕ) → List (List ℕ)
onto d [] = d ∷ []
onto d (g ∷ gs) = (g ++ d) ∷ gs

-- by what was awaited and the step that the reply made: a header after which the attempt's first command is given starts a new attempt, and a
-- good chunk is added to its attempt's
abbrev pub attempts_by : Phase → Reply → Stepped → List (List ℕ) → List (List ℕ)
attempts_by First k x gs = pick (sent x.next) ([] ∷ gs) gs
attempts_by (Chunk at) k x gs = pick (sent x.next && k.ok) (onto (chunk_in x.state.plan k.bytes) gs) gs
attempts_by (Close after) k x gs = pick (sent x.next && not (ack_by x.state.phase)) ([] ∷ gs) gs
attempts_by Ack k x gs = gs
attempts_by Ended k x gs = gs

-- the step is lent the copy that the last one left
abbrev pub step_with : Held → Reply → Stepped
step_with h k = step_of h.state k.ok k.bytes (length h.copy)

-- the run with one completion more, and with more of them
abbrev pub held_on : Held → Reply → Held
held_on h k = record {
  state = (step_with h k).state;
  copy = copy_after h.state k.ok k.bytes h.copy;
  attempts = attempts_by h.state.phase k (step_with h k) h.attempts;
  endings = h.endings ++ ended (step_with h k).next;
}

unfoldable pub held_after : Held → List Reply → Held
held_after h [] = h
held_after h (k ∷ ks) = held_after (held_on h k) ks

-- a run from setup on, with a copy of any bytes
abbrev pub held_of : Plan → List ℕ → List Reply → Held
held_of p copy ks = held_after (record { state = (setup_of p).state; copy = copy; attempts = []; endings = [] }) ks

-- the data of the last attempt's chunks in order
abbrev pub newest : List (List ℕ) → List ℕ
newest [] = []
newest (g ∷ gs) = g

-- a copy with the attempts' data laid over its front, one attempt after another
abbrev pub laid : List ℕ → List (List ℕ) → List ℕ
laid copy [] = copy
laid copy (g ∷ gs) = g ++ drop (length g) (laid copy gs)

-- the most bytes that any attempt gathered
abbrev pub longest : List (List ℕ) → ℕ
longest [] = 0
longest (g ∷ gs) = larger (length g) (longest gs)

-- a success leaves the last attempt's data, as long as the wanted area of its header, and then zeros
pub record Stood (p : Plan) (h : Held) : Type 0 where
  pub size : length (newest h.attempts) ≡ area_bytes p h.state.attempt.last
  pub copy : h.copy ≡ newest h.attempts ++ zeros (p.room - length (newest h.attempts))

-- an ending was given, once: a success with what it leaves, and every other leaves zeros
pub record Over (p : Plan) (h : Held) : Type 0 where
  pub finish : Finish
  pub once : h.endings ≡ finish ∷ []
  pub stood : good finish.ending ≡ true → Stood p h
  pub cleared : good finish.ending ≡ false → h.copy ≡ zeros p.room

-- none was given: the copy is as at the beginning, with the attempts' data laid over it
pub record Going (first : List ℕ) (h : Held) : Type 0 where
  pub none : h.endings ≡ []
  pub copy : h.copy ≡ laid first h.attempts
