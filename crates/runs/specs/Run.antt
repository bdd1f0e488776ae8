-- A run: setup, and then completions, each of them any success or refusal with any data, and with a lent copy of any length.
-- Assumes nothing.
use Rattle.std.specs.Prelude.{ℕ, ◌+◌, List, [], ◌∷◌, ◌++◌, Bool, ◌&&◌, length, eqb}
use Rattle.choices.specs.Choice.{pick, larger}
use Rattle.answers.specs.Answers.{success, does_not_fit}
use Rattle.pages.specs.Pages.{controller_page}
use Rattle.words.specs.declared.Words.{Words}
use Rattle.plans.specs.declared.Plan.{Plan}
use Rattle.phases.specs.Phases.{judged_by}
use Rattle.completions.specs.Plan.{plan_by}
use Rattle.collection.specs.Collection.{setup_of, step_of, refusal_of, answer_of}
use Rattle.collection.specs.declared.Collection.{Collection}
use Rattle.collection.specs.Told.{Next}
use Rattle.collection.specs.declared.Next.TheVariants.{Send, End as Ends, Refuse}
use Rattle.collection.specs.Told.{Stepped}

pub record Completion : Type 0 where
  pub ok : Bool
  pub bytes : List ℕ
  pub copy : ℕ

-- the step that a completion makes
abbrev pub step_by : Collection → Completion → Stepped
step_by s k = step_of s k.ok k.bytes k.copy

-- the commands that an answer gives: one, or none
abbrev pub given : Next → List Words
given (Send w) = w ∷ []
given (Ends e) = []
given (Refuse n) = []

-- the state after completions
unfoldable pub after : Collection → List Completion → Collection
after s [] = s
after s (k ∷ ks) = after (step_by s k).state ks

-- the commands that the steps gave, in order
unfoldable pub play : Collection → List Completion → List Words
play s [] = []
play s (k ∷ ks) = given (step_by s k).next ++ play (step_by s k).state ks

-- the state of a run, and its record: the commands that setup and the steps gave, in order
abbrev pub state_of : Plan → List Completion → Collection
state_of p ks = after (setup_of p).state ks

abbrev pub record_of : Plan → List Completion → List Words
record_of p ks = given (setup_of p).next ++ play (setup_of p).state ks

-- the chunks that a header calls for: those of the plan from it, which are none where it is refused
abbrev pub called_for : Plan → List ℕ → ℕ
called_for p d = (plan_by p d).chunks

-- the most that any of these headers calls for
unfoldable pub most_chunks : Plan → List (List ℕ) → ℕ
most_chunks p [] = 0
most_chunks p (d ∷ ds) = larger (called_for p d) (most_chunks p ds)

-- the data of the headers that a run judges, in order
unfoldable pub headers_of : Collection → List Completion → List (List ℕ)
headers_of s [] = []
headers_of s (k ∷ ks) = pick (judged_by s.phase && eqb (refusal_of s k.ok (length k.bytes) k.copy) success) (k.bytes ∷ []) [] ++ headers_of (step_by s k).state ks

-- the acknowledgement: one command more on 08h
abbrev pub acknowledging : Plan → ℕ
acknowledging p = pick (eqb p.page controller_page) 1 0

-- how many of the completions fit the awaited command, that is, are not answered 15
unfoldable pub fitting : Collection → List Completion → ℕ
fitting s [] = 0
fitting s (k ∷ ks) = pick (eqb (answer_of (step_by s k).next) does_not_fit) 0 1 + fitting (step_by s k).state ks
