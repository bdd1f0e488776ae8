-- `reader::block_at` meets its contract: a block at the place lies within the copy, so its part has the block's length; at the end the part is empty.
-- Assumes nothing.
use Rattle.std.proofs.Common.{ap, ◌∙◌, sym, arith, ℕ, take, drop}
use Rattle.pages.specs.Pages.{block}
use Rattle.reader.specs.Reader.{block_at, part_at, led_to}
use Rattle.reader.specs.Laws.{block_yes, led_on, led_nowhere}
use Rattle.reader.proofs.block_at.Goals as goal

pub slice_bounds-result-count : goal.slice_bounds-result-count
slice_bounds-result-count c =
    let l = led_on _ _ _ (ap (led_to c.args.at) (sym c.in-Some.is) ∙ c.place_at.ensures) in omega arith

pub slice_bounds-result-start : goal.slice_bounds-result-start
slice_bounds-result-start c =
    let l = led_on _ _ _ (ap (led_to c.args.at) (sym c.in-Some.is) ∙ c.place_at.ensures) in omega arith

pub slice_bounds-result-end : goal.slice_bounds-result-end
slice_bounds-result-end c =
    let l = led_on _ _ _ (ap (led_to c.args.at) (sym c.in-Some.is) ∙ c.place_at.ensures) in omega arith

pub returns-in-Some : goal.returns-in-Some
unfolding part_at
returns-in-Some c =
    let l = led_on _ _ _ (ap (led_to c.args.at) (sym c.in-Some.is) ∙ c.place_at.ensures) in
    (ap (λ (n : ℕ). take n (drop c.args.at c.args.copy.now)) {y = block} (omega (arith, l.wide)) ∙ sym (block_yes c.args.copy.now c.args.at l.more), rw l.more)

pub returns-in-None : goal.returns-in-None
unfolding block_at part_at
returns-in-None c =
    let e = led_nowhere _ _ (ap (led_to c.args.at) (sym c.in-None.is) ∙ c.place_at.ensures) in (rw e, rw e)
