-- `state_layout::write_state` meets its contract: the puts follow one another from byte 0 to the end.
-- Assumes nothing.
use Rattle.std.proofs.Common.{refl, ℕ, List, [], ◌∷◌, rules}
use Rattle.arrays.specs.Puts.{put_four}
use Rattle.state_layout.specs.Steps.{state_is}
use Rattle.state_layout.proofs.write_state.Goals as goal

pub returns : goal.returns
returns c =
    let s = c.args.s in
    let numbers : List ℕ = s.plan.chunk ∷ s.plan.attempts ∷ s.attempt.number ∷ c.chunk_start-start.result ∷ [] in
    state_is c.args.s c.state_marks.ensures c.chunk_start-start.ensures c.put.ensures (put_four numbers _ _ 8 refl c.put_all.ensures)
    c.put_le.ensures c.put_le-2.ensures (put_four _ _ _ 40 (search rules) c.put_all-2.ensures)
