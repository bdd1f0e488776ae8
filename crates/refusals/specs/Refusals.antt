-- Document 01, "Host: header check and collection": what speaks against a step, by what a state holds and what is known of a completion. In this order: 14, 13, 15.
-- Assumes nothing.
use Rattle.std.specs.Prelude.{ℕ, ◌+◌, ◌*◌, [], ◌∷◌, Bool, not, ◌&&◌, leb, eqb}
use Rattle.choices.specs.Choice.{pick, first_that}
use Rattle.choices.specs.Tests.{holds}
use Rattle.answers.specs.Answers.{success, bad_setup, already_ended, does_not_fit}
use Rattle.pages.specs.Pages.{most4}
use Rattle.plans.specs.declared.Plan.{Plan}
use Rattle.phases.specs.declared.Phase.{Phase}
use Rattle.phases.specs.Phases.{ended_by}
use Rattle.plans.specs.Plans.{setup_answer}
use Rattle.phases.specs.Asked.{expected_by, within_by}
use Rattle.phases.specs.declared.Attempt.{Attempt}
use Rattle.refusals.specs.declared.Offered.{Offered}

-- the most commands of so many attempts
abbrev pub most_count : ℕ → ℕ
most_count attempts = 2 + attempts * (most4 + 1)

-- what a state's numbers must keep: setup's limits, the attempt, the command count, the header's area and the awaited chunk
abbrev pub valid_by : Plan → Phase → Attempt → ℕ → Bool
valid_by p f a count =
    holds
    (eqb (setup_answer p) success
    ∷ (leb 1 a.number && leb a.number p.attempts)
    ∷ leb count (most_count p.attempts)
    ∷ within_by f p a.last
    ∷ [])

-- a completion that fits the awaited command: a success brings its bytes and a refusal none, and the copy is as long as at setup
abbrev pub fits_by : ℕ → ℕ → Bool → ℕ → ℕ → Bool
fits_by room due ok bytes copy = eqb copy room && eqb bytes (pick ok due 0)

-- in this order, or 0
abbrev pub first_refusal : Bool → Bool → Bool → ℕ
first_refusal over valid fits = first_that ((over, already_ended) ∷ (not valid, bad_setup) ∷ (not fits, does_not_fit) ∷ []) success

-- what speaks against a step
unfoldable pub refusal_by : Plan → Phase → Attempt → ℕ → Offered → ℕ
refusal_by p f a count o =
    first_refusal (ended_by f) (valid_by p f a count) (fits_by p.room (expected_by f p a.last) o.ok o.bytes o.copy)
