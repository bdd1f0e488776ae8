-- `serving::put_runs` meets its contract: three puts, each where the last ended, up to the buffer's end.
-- Assumes nothing.
use Rattle.std.specs.Prelude.{ℕ, ◌+◌, ◌≡◌, refl, List, [], ◌++◌, length, drop}
use Rattle.std.proofs.Common.{ap, ◌∙◌, arith, zero-add, length-append}
use Rattle.std.proofs.Math.ListN.{drop_of_length-le}
use Rattle.std.proofs.lemmas.List.{append-nil}
use Rattle.copies.specs.Parts.{zeros, length-zeros, put_at, put_next}
use Rattle.serving.proofs.put_runs.Goals as goal

three_puts : (d u v : List ℕ) (z : ℕ) → length u + length v + z ≡ length d → (x y w : List ℕ)
    → x ≡ put_at d 0 u → y ≡ put_at x (length u) v → w ≡ put_at y (length u + length v) (zeros z)
    → w ≡ (u ++ v) ++ zeros z
three_puts d u v z r x y w e f g =
    let e' : x ≡ u ++ drop (length u) d = e ∙ put_next [] d u 0 refl (omega arith) ∙ ap (λ (i : ℕ). u ++ drop i d) (zero-add (length u)) in
    let f' : y ≡ (u ++ v) ++ drop (length u + length v) d = f ∙ ap (λ (l : List ℕ). put_at l (length u) v) e' ∙ put_next u d v (length u) refl (omega arith) in
    g
    ∙ ap (λ (l : List ℕ). put_at l (length u + length v) (zeros z)) f'
    ∙ put_next (u ++ v) d (zeros z) (length u + length v) (length-append u v) (omega (arith, length-zeros z))
    ∙ ap (λ (l : List ℕ). ((u ++ v) ++ zeros z) ++ l) (drop_of_length-le d (omega (arith, length-zeros z)))
    ∙ append-nil ((u ++ v) ++ zeros z)

pub returns : goal.returns
returns c =
    let a = c.args in
    three_puts a.buf.now a.front.now a.blocks.now _ (omega (arith, c.requires)) c.put.new.dst c.put-2.new.dst c.put_zeros.new.dst
    c.put.ensures c.put-2.ensures c.put_zeros.ensures
