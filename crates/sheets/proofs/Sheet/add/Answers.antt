-- `sheets::Sheet::add` meets its contract: there are all sums, or 20.
-- Assumes nothing.
use Rattle.std.proofs.Common.{ap, ◌∙◌, Option}
use Rattle.std.specs.Option.{ok_or}
use Rattle.answers.specs.declared.Refusal.TheVariants.{TotalFull}
use Rattle.sheets.specs.declared.Sheet.{Sheet}
use Rattle.sheets.specs.Sheets.{outcome}
use Rattle.sheets.specs.Steps.{add_is}
use Rattle.sheets.proofs.Sheet.add.Goals as goal

pub returns : goal.returns
returns c =
    let s = c.args.self in
    ap (outcome s) (c.ok_or.ensures.value ∙ ap (λ (o : Option Sheet). ok_or o TotalFull) c.sums.ensures) ∙ add_is s c.args.other
