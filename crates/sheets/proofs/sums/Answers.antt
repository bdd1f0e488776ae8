-- `sheets::sums` meets its contract: the first sum that is none ends it, or all are totals.
-- Assumes nothing.
use Rattle.std.proofs.Common.{◌∙◌, rules}
use Rattle.sheets.specs.Steps.{no_runs, no_blocks, no_commands, no_failed, all_summed}
use Rattle.sheets.proofs.sums.Goals as goal

pub returns-in_err-runs : goal.returns-in_err-runs
returns-in_err-runs c = c.from_residual.ensures ∙ no_runs c.args.a c.args.b c.in_err-runs.ensures

pub returns-in_err-blocks : goal.returns-in_err-blocks
returns-in_err-blocks c = c.from_residual-in_err-blocks.ensures ∙ no_blocks c.args.a c.args.b c.in_err-blocks.ensures

pub returns-in_err-commands : goal.returns-in_err-commands
returns-in_err-commands c = c.from_residual-in_err-commands.ensures ∙ no_commands c.args.a c.args.b c.in_err-commands.ensures

pub returns-in_err-failed : goal.returns-in_err-failed
returns-in_err-failed c = c.from_residual-in_err-failed.ensures ∙ no_failed c.args.a c.args.b (search rules)

pub returns : goal.returns
returns c = all_summed c.args.a c.args.b c.in_ok-runs.ensures c.in_ok-blocks.ensures c.in_ok-commands.ensures (search rules)
