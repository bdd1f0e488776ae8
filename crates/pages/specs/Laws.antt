-- What holds of both pages.
-- Assumes nothing.
use Rattle.std.specs.Prelude.{ℕ, ◌≡◌, true, eqb}
use Rattle.std.proofs.Common.{eqb-true}
use Rattle.choices.specs.Tests.{or_cases}
use Rattle.pages.specs.Pages.{host_page, controller_page, telemetry_page}

-- what holds of both pages holds of any telemetry page
pub by_page : (P : ℕ → Type 0) (page : ℕ) → telemetry_page page ≡ true → P host_page → P controller_page → P page
by_page P page t host controller =
    or_cases (eqb page host_page) (eqb page controller_page) t
    (λ e. rw (eqb-true page host_page e) host)
    (λ e. rw (eqb-true page controller_page e) controller)
