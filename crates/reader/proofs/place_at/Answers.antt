-- `reader::place_at` meets its contract: a place from which a block would end past the greatest number, or past the copy, is at the end.
-- Assumes nothing.
use Rattle.std.proofs.Common.{sym, ap, ◌∙◌, arith, ℕ, ◌<◌, ◌+◌, Some}
use Rattle.pages.specs.Pages.{block}
use Rattle.reader.specs.Reader.{led_to}
use Rattle.reader.specs.Laws.{more_yes, more_no, place_yes, place_no}
use Rattle.reader.proofs.place_at.Goals as goal

pub returns-in_err-after : goal.returns-in_err-after
returns-in_err-after c =
    let a = c.args in
    let past : a.n < a.at + block = omega arith in
    ap (led_to a.at) c.from_residual.ensures ∙ sym (place_no a.n a.at (more_no a.n a.at past))

pub returns-then-after-n : goal.returns-then-after-n
returns-then-after-n c =
    let a = c.args in
    ap (λ (n : ℕ). led_to a.at (Some n)) {y = a.at + block} (omega (arith, c.in_ok-after.ensures.1)) ∙ sym (place_yes a.n a.at (more_yes a.n a.at (omega arith)))

pub returns-else-after-n : goal.returns-else-after-n
returns-else-after-n c =
    let a = c.args in
    sym (place_no a.n a.at (more_no a.n a.at (omega arith)))
