-- `sheet_boundary::add_at` meets its contract: two intact sheets are added, and any other two are refused.
-- Assumes nothing.
use Rattle.std.proofs.Common.{◌≡◌, refl, sym, ap, ◌∙◌, ◌&&◌, true, false}
use Rattle.std.proofs.lemmas.Result.{err_from_is_err_and}
use Rattle.sheets.specs.declared.Sheet.{Sheet}
use Rattle.sheets.specs.Sheets.{outcome}
use Rattle.sheet_layout.specs.Layout.{sheet_intact}
use Rattle.sheet_boundary.specs.Steps.{read_ok, read_err, add_taken, add_damaged}
use Rattle.sheet_boundary.proofs.add_at.Goals as goal

pub returns-in_err-sheet : goal.returns-in_err-sheet
returns-in_err-sheet c =
    let b = c.args.lent.now in
    let more = c.args.more.now in
    let p = err_from_is_err_and c.from_residual.result c.from_residual.ensures.1 in
    let r = read_err b c.in_err-sheet.field-0.0 c.in_err-sheet.ensures in
    let either : sheet_intact b && sheet_intact more ≡ false = rw r.damaged in
    rw (p.1, p.2, r.is) (add_damaged b more refl refl refl either refl)

pub returns-in_err-second : goal.returns-in_err-second
returns-in_err-second c =
    let b = c.args.lent.now in
    let more = c.args.more.now in
    let p = err_from_is_err_and c.from_residual-in_err-second.result c.from_residual-in_err-second.ensures.1 in
    let first = read_ok b c.in_ok-sheet.sheet c.in_ok-sheet.ensures in
    let r = read_err more c.in_err-second.field-0.0 c.in_err-second.ensures in
    let either : sheet_intact b && sheet_intact more ≡ false = rw (first.intact, r.damaged) in
    rw (p.1, p.2, r.is) (add_damaged b more refl refl refl either refl)

pub returns : goal.returns
returns c =
    let b = c.args.lent.now in
    let more = c.args.more.now in
    let first = read_ok b c.in_ok-sheet.sheet c.in_ok-sheet.ensures in
    let second = read_ok more c.in_ok-second.second c.in_ok-second.ensures in
    let both : sheet_intact b && sheet_intact more ≡ true = rw (first.intact, second.intact) in
    ap (λ (s : Sheet). outcome s c.add.result) (sym first.is) ∙ add_taken b more first.is second.is refl refl both c.add.ensures
