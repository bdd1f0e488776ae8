-- What a step gives, in the paper's numbers: a refusal is the number of its answer. And each answer of the code as what it is there.
-- Assumes nothing.
use Rattle.std.specs.Prelude.{ℕ}
use Rattle.answers.specs.declared.Refusal.{Refusal}
use Rattle.answers.specs.Answers.{refusal_number}
use Rattle.touches.specs.declared.Touch.{Touch}
use Rattle.collection.specs.declared.Collection.{Collection}
use Rattle.collection.specs.declared.Next.{Next as NextWith}
use Rattle.collection.specs.declared.Next.TheVariants.{Send, End, Refuse}
use Rattle.collection.specs.declared.Stepped.{Stepped as CodeStepped}
use Rattle.collection.specs.declared.Decided.{Decided as CodeDecided}

-- what follows: the next command, the ending, or the number of a refusal
abbrev pub Next : Type 0
Next = NextWith ℕ

-- the state with what follows
pub record Stepped : Type 0 where
  pub state : Collection
  pub next : Next

-- a step and what happens to the copy with it
pub record Decided : Type 0 where
  pub stepped : Stepped
  pub touch : Touch

-- ---- of the code's answers

abbrev pub next_told : NextWith Refusal → Next
next_told (Send w) = Send w
next_told (End e) = End e
next_told (Refuse r) = Refuse (refusal_number r)

abbrev pub stepped_told : CodeStepped → Stepped
stepped_told x = record { state = x.state; next = next_told x.next }

abbrev pub decided_told : CodeDecided → Decided
decided_told x = record { stepped = stepped_told x.stepped; touch = x.touch }
