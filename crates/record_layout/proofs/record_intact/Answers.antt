-- `record_layout::record_intact` meets its contract: the chain of tests is the row of tests.
-- Assumes nothing.
use borrow.Author.Rules.{rules}
use Rattle.choices.specs.Tests.{holds}
use Rattle.record_layout.specs.Layout.{record_intact}
use Rattle.record_layout.proofs.record_intact.Goals as goal

pub returns : goal.returns
unfolding record_intact holds
returns c = search rules
