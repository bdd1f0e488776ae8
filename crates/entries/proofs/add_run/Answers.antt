-- `entries::add_run` meets its contract: a run that can be is added by its own sheet, any other leaves the sheet.
-- Assumes nothing.
use Rattle.std.proofs.Common.{◌∙◌}
use Rattle.std.proofs.lemmas.Result.{err_from_is_err_and}
use Rattle.entries.specs.Steps.{entered_alone, refused_alone}
use Rattle.entries.proofs.add_run.Goals as goal

pub returns-in_err-try_from : goal.returns-in_err-try_from
returns-in_err-try_from c =
    let p = err_from_is_err_and c.from_residual.result c.from_residual.ensures.1 in
    rw (p.1, p.2) (refused_alone c.args.sheet c.args.run _ c.in_err-try_from.ensures)

pub returns : goal.returns
returns c = c.add.ensures ∙ entered_alone c.args.sheet c.args.run c.in_ok-try_from.field-0 c.in_ok-try_from.ensures
