-- `collection::Collection::step` meets its contract: it is the decision on what was seen, and the copy is touched as decided.
-- Assumes nothing.
use Rattle.std.proofs.Common.{ap, ◌∙◌}
use Rattle.collection.specs.Told.{Decided}
use Rattle.collection.specs.Collection.{step_of, look_of}
use Rattle.collection.specs.Laws.{settled_is}
use Rattle.collection.proofs.Collection.step.Goals as goal

pub returns : goal.returns
unfolding step_of look_of
returns c =
    let a = c.args in (
      ap (λ (x : Decided). x.stepped) c.decide-decided.ensures ∙ rw c.look-seen.ensures,
      c.settle.ensures ∙ settled_is a.self a.completion.ok a.completion.«data».now a.copy.now c.look-seen.ensures c.decide-decided.ensures,
    )
