-- What the host's functions of include/bumbazeel.h answer and leave in the bytes that they are lent: the definitions of the crates below,
-- on what the bytes say. A state's bytes that are damaged are refused before anything else, with 13.
-- Assumes nothing.
use Rattle.std.specs.Prelude.{ℕ, List, [], ◌∷◌, Bool, not, length, eqb}
use Rattle.choices.specs.Choice.{pick}
use Rattle.answers.specs.Answers.{bad_setup}
use Rattle.words.specs.declared.Words.{Words}
use Rattle.plans.specs.declared.Plan.{Plan}
use Rattle.collection.specs.declared.Collection.{Collection}
use Rattle.collection.specs.declared.Next.TheVariants.{Refuse}
use Rattle.collection.specs.Told.{Stepped}
use Rattle.collection.specs.Collection.{step_of, copy_after}
use Rattle.shared_layouts.specs.Layouts.{caps_of}
use Rattle.state_layout.specs.Layout.{state_bytes, state_at, state_intact}
use Rattle.next_layout.specs.Layout.{refusal, kind_of, next_bytes}

-- a byte as a flag: 0 is no and anything else is yes
abbrev pub flag_of : ℕ → Bool
flag_of b = not (eqb b 0)

-- five words as an array
abbrev pub words_list : Words → List ℕ
words_list w = w.cdw10 ∷ w.cdw11 ∷ w.cdw12 ∷ w.cdw13 ∷ w.cdw14 ∷ []

-- what setup is asked for
abbrev pub setup_plan : ℕ → ℕ → ℕ → ℕ → ℕ → ℕ → ℕ → Plan
setup_plan page create area caps chunk attempts room = record {
  page = page;
  create = flag_of create;
  area = area;
  chunk = chunk;
  attempts = attempts;
  room = room;
  caps = caps_of caps;
}

-- what a step leaves: the kind that it answers, the state's bytes, the copy, and the bytes of what follows
pub record StepAnswer : Type 0 where
  pub kind : ℕ
  pub state : List ℕ
  pub copy : List ℕ
  pub follows : List ℕ

abbrev pub step_answer : ℕ → List ℕ → List ℕ → List ℕ → StepAnswer
step_answer kind state copy follows = record { kind = kind; state = state; copy = copy; follows = follows }

-- a refusal leaves the state's bytes as they were
abbrev pub state_after : List ℕ → ℕ → Collection → List ℕ
state_after s kind after = pick (eqb kind refusal) s (state_bytes after)

-- what a step leaves of a state's bytes, the copy being afterwards
abbrev pub step_answer_of : List ℕ → Stepped → List ℕ → StepAnswer
step_answer_of s x copy = step_answer (kind_of x.next) (state_after s (kind_of x.next) x.state) copy (next_bytes x.next)

-- a step on a state's bytes, data d and a copy
unfoldable pub step_at : List ℕ → Bool → List ℕ → List ℕ → StepAnswer
step_at s ok d copy =
    pick (state_intact s)
    (step_answer_of s (step_of (state_at s) ok d (length copy)) (copy_after (state_at s) ok d copy))
    (step_answer refusal s copy (next_bytes (Refuse bad_setup)))
