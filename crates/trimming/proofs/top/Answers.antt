-- `trimming::top` meets its contract: each choice is the definition's.
-- Assumes nothing.
use Rattle.std.specs.Prelude.{ℕ, ◌≡◌, min}
use Rattle.std.proofs.Common.{◌∙◌, arith}
use Rattle.choices.specs.Choice.{smaller}
use Rattle.trimming.specs.Trimming.{top_of}
use Rattle.trimming.proofs.top.Goals as goal

min_is : (a b : ℕ) → min b a ≡ smaller a b
min_is a b = grind arith

pub returns : goal.returns
unfolding top_of
returns c = c.pick.ensures ∙ rw (c.min.ensures, min_is c.pick-m.result c.args.mcda, c.pick-m.ensures)
