-- `entries::Sheet::try_from` meets its contract: the run is counted at its ending alone, or it cannot be.
-- Assumes nothing.
use Rattle.std.proofs.Common.{◌≡◌, ◌∙◌, sym, rules, tests}
use Rattle.std.proofs.lemmas.Result.{err_from_is_err_and}
use Rattle.answers.specs.declared.Refusal.TheVariants.{BadSetup}
use Rattle.entries.specs.Steps.{said_none, one_counted, not_counted}
use Rattle.entries.proofs.SheetTryFromRun.try_from.Goals as goal

pub returns-in_err-place : goal.returns-in_err-place
returns-in_err-place c =
    let p = err_from_is_err_and c.from_residual.result c.from_residual.ensures.1 in
    let none = c.in_err-place.ensures.ok_part in
    let said : c.in_err-place.field-0.0 ≡ BadSetup = said_none c.in_err-place.ensures.value none in
    rw (p.1, p.2, said) (not_counted c.args.run (sym none ∙ c.place_of.ensures))

pub returns : goal.returns
returns c = one_counted c.args.run c.in_ok-place.place _ (sym c.in_ok-place.ensures.ok_part ∙ c.place_of.ensures) (search (rules, tests))
