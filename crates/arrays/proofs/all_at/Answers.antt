-- `arrays::all_at` meets its contract: each call of the closure gives the number at its place.
-- Assumes nothing.
use Rattle.std.proofs.Common.{◌+◌, ◌*◌, ℕ, rules}
use Rattle.littleendian.specs.Numbers.{value_at}
use Rattle.arrays.specs.Made.{made}
use Rattle.arrays.proofs.all_at.Goals as goal

pub returns : goal.returns
returns g c =
    let n = g.T.LittleEndian in
    made _ _ (λ (k : ℕ). n.of (value_at n.WIDTH (c.args.i + k * n.WIDTH) c.args.b.now)) (λ x r q e. search rules) c.from_fn.result g.row.N (n.of 0) c.from_fn.ensures.items
