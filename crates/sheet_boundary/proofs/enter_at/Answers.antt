-- `sheet_boundary::enter_at` meets its contract: an intact sheet takes what the addition gives, a damaged one is refused.
-- Assumes nothing.
use Rattle.std.proofs.Common.{refl, sym, ap, ◌∙◌}
use Rattle.std.proofs.lemmas.Result.{err_from_is_err_and}
use Rattle.sheets.specs.declared.Sheet.{Sheet}
use Rattle.sheets.specs.Sheets.{outcome}
use Rattle.sheet_boundary.specs.Steps.{read_ok, read_err, enter_taken, enter_damaged}
use Rattle.sheet_boundary.proofs.enter_at.Goals as goal

pub returns-in_err-sheet_of : goal.returns-in_err-sheet_of
returns-in_err-sheet_of c =
    let b = c.args.lent.now in
    let p = err_from_is_err_and c.from_residual.result c.from_residual.ensures.1 in
    let r = read_err b c.in_err-sheet_of.field-0.0 c.in_err-sheet_of.ensures in
    rw (p.1, p.2, r.is) (enter_damaged b c.args.run refl refl r.damaged refl)

pub returns : goal.returns
returns c =
    let b = c.args.lent.now in
    let r = read_ok b c.in_ok-sheet_of.field-0 c.in_ok-sheet_of.ensures in
    ap (λ (s : Sheet). outcome s c.add_run.result) (sym r.is) ∙ enter_taken b c.args.run r.is refl r.intact c.add_run.ensures
