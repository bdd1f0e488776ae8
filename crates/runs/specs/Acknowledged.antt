-- The acknowledgement of a run, whatever completes its commands: RAE 0 is in the run's record exactly where the acknowledgement was sent, and
-- then in its last command alone. A success on 08h comes after one that was completed with success.
-- What is proved of these words stands in proofs/Acknowledged.antt.
-- Assumes nothing.
use Rattle.std.specs.Prelude.{◌≡◌, List, [], ◌∷◌, ◌++◌, Bool, true, false, ◌||◌}
use Rattle.words.specs.declared.Words.{Words}
use Rattle.words.specs.Words.{read_of}
use Rattle.plans.specs.declared.Plan.{Plan}
use Rattle.phases.specs.declared.Phase.TheVariants.{Ack}
use Rattle.phases.specs.Phases.{ack_by}
use Rattle.collection.specs.declared.Collection.{Collection}
use Rattle.runs.specs.Run.{Completion, step_by, state_of, record_of}
use Rattle.runs.specs.Retained.{All, Retains}

-- the acknowledgement was sent: a state of the run awaits it
unfoldable pub acknowledges : Collection → List Completion → Bool
acknowledges s [] = ack_by s.phase
acknowledges s (k ∷ ks) = ack_by s.phase || acknowledges (step_by s k).state ks

-- RAE is 0
abbrev pub Clears : Words → Type 0
Clears w = (read_of true w).rae ≡ false

-- commands that all have RAE 1, and then one with RAE 0
pub record Acknowledged (ws : List Words) : Type 0 where
  pub before : List Words
  pub last : Words
  pub is : ws ≡ before ++ last ∷ []
  pub retains : All Retains before
  pub clears : Clears last

-- RAE 0 in the last command alone, or in none
abbrev pub Rae : Bool → List Words → Type 0
Rae true ws = Acknowledged ws
Rae false ws = All Retains ws

-- the acknowledgement was awaited, it was completed with success, and the record ends with it
pub record ByAcknowledgement (p : Plan) (ks : List Completion) (k : Completion) : Type 0 where
  pub awaited : (state_of p ks).phase ≡ Ack
  pub completed : k.ok ≡ true
  pub last : Acknowledged (record_of p ks)
