-- `sheets::Sheet::is_possible` meets its contract: one of the eight numbers counts a run.
-- Assumes nothing.
use Rattle.std.proofs.Common.{◌≡◌, ◌∙◌, length, rules, tests, leb}
use Rattle.std.proofs.lemmas.Iterator.{YieldsList-from_slice}
use Rattle.std.proofs.lemmas.Iterator.Search.{any_from_yields_List}
use Rattle.sheets.specs.Sheets.{possible}
use Rattle.sheets.specs.Steps.{any_counted}
use Rattle.sheets.proofs.Sheet.is_possible.Goals as goal

pub returns : goal.returns
unfolding possible
returns c =
    let n = c.args.self.runs in
    let eight : length n ≡ 8 = search rules in
    let any = any_from_yields_List (leb 1) _ _ c.any-any.result c.any-any.ensures.ran (YieldsList-from_slice n cc) (λ x b q k. search (rules, tests)) in
    rw (any ∙ any_counted c.args.self eight)
