-- `sheet_boundary::bumbazeel_mean` meets its contract: the mean of an intact sheet, and zeros of a damaged one.
-- Assumes nothing.
use Rattle.std.proofs.Common.{refl, sym, ap, ◌∙◌}
use Rattle.answers.specs.Answers.{refusal_number}
use Rattle.sheets.specs.Sheets.{told}
use Rattle.sheet_boundary.specs.Steps.{read_ok, read_err, mean_told, mean_zeros}
use Rattle.sheet_boundary.proofs.bumbazeel_mean.Goals as goal

pub returns-in-Some : goal.returns-in-Some
returns-in-Some c =
    let b = c.args.sheet.now in
    let r = read_ok b c.in-Ok.intact c.in-Ok.ensures in
    mean_told b refl r.intact r.is (ap told (sym c.in-Some.is) ∙ c.mean.ensures) c.write_mean.ensures

pub returns-in-None : goal.returns-in-None
returns-in-None c =
    let b = c.args.sheet.now in
    let r = read_ok b c.in-Ok.intact c.in-Ok.ensures in
    mean_told b refl r.intact r.is (ap told (sym c.in-None.is) ∙ c.mean.ensures) c.write_mean-in-None.ensures

pub returns-in-Err : goal.returns-in-Err
returns-in-Err c =
    let b = c.args.sheet.now in
    let r = read_err b c.in-Err.refusal c.in-Err.ensures in
    let zeros = mean_zeros b refl r.damaged in
    (c.number.ensures ∙ ap refusal_number r.is ∙ zeros.0, zeros.1)
