-- `sheet_layout::check_of` meets its contract: the totals are added to the mark one after another.
-- Assumes nothing.
use Rattle.std.proofs.Common.{◌≡◌, ◌∙◌, refl, length, arith, rules, tests}
use Rattle.std.proofs.lemmas.List.{set-get_or}
use Rattle.std.proofs.lemmas.Iterator.{YieldsList-from_slice}
use Rattle.std.proofs.lemmas.Iterator.Consumers.{fold_from_yields_List}
use Rattle.sheets.specs.Steps.{wrap}
use Rattle.sheet_layout.specs.Layout.{mark}
use Rattle.sheet_layout.specs.Steps.{runs_by_fold, check_by_turns}
use Rattle.sheet_layout.proofs.check_of.Goals as goal

pub returns : goal.returns
returns c =
    let s = c.args.s in
    let eight : length s.runs ≡ 8 = search rules in
    let runs = fold_from_yields_List _ wrap mark c.fold-runs.result c.fold-runs.ensures.ran (YieldsList-from_slice s.runs (grind (arith, set-get_or))) (λ a x b q k. search (rules, tests)) in
    check_by_turns s (runs ∙ runs_by_fold s.runs eight) refl refl refl
