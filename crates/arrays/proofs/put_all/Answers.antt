-- `arrays::put_all` meets its contract: after k turns the first k numbers are put; where not all fit nothing is written.
-- Assumes nothing.
use Rattle.std.proofs.Common.{◌∙◌, ap, List, take_all, rules}
use Rattle.copies.specs.Parts.{put_at}
use Rattle.arrays.specs.Arrays.{numbers_of}
use Rattle.arrays.specs.Puts.{numbers_then, numbers_none, numbers_not, numbers_many}
use Rattle.arrays.proofs.put_all.Goals.{else-at-out-via-then-at-out+else-all-out, else-at-out-via-else-at-out}
use Rattle.arrays.proofs.put_all.Goals as goal

pub loop-k-init : goal.loop-k-init
loop-k-init g c =
    let n = g.T.LittleEndian in
    numbers_none n.WIDTH n.number c.args.all.now c.args.out.now c.args.at c.if-at-out.true

pub loop-k-preserved : goal.loop-k-preserved
loop-k-preserved g c =
    let a = c.args in
    let n = g.T.LittleEndian in
    numbers_then n.WIDTH n.number a.all.now a.out.now c.put_le.new.out c.loop-k.out a.at c.loop-k.k c.WIDTH-in-loop-k.result c.index-all-k.result g.met.T.LittleEndian.some
    c.loop-k-test.true (rw c.WIDTH.ensures at c.if-all-out.true) c.if-at-out.true c.WIDTH-in-loop-k.ensures c.index-all-k.is c.loop-k.invariant (c.put_le.ensures ∙ search (rules, c.index-all-k.is))

pub returns-after-loop-k : goal.returns-after-loop-k
returns-after-loop-k g c =
    let a = c.args in
    let n = g.T.LittleEndian in
    c.loop-k.invariant
    ∙ ap (λ (l : List g.row.T.Denot). put_at a.out.now a.at (numbers_of n.WIDTH n.number l)) (take_all c.loop-k.k a.all.now c.loop-k-test.false)

pub returns-else-at-out : goal.returns-else-at-out
returns-else-at-out g c =
    let a = c.args in
    let n = g.T.LittleEndian in
    elim c.else-at-out.branch [
      | else-at-out-via-then-at-out+else-all-out w ↦ numbers_many n.WIDTH n.number a.all.now a.out.now a.at g.met.T.LittleEndian.some (rw w.WIDTH.ensures at w.if-all-out.false)
      | else-at-out-via-else-at-out w ↦ numbers_not n.WIDTH n.number a.all.now a.out.now a.at g.met.T.LittleEndian.some w.if-at-out.false
    ]
