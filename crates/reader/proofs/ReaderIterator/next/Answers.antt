-- `reader::Reader::next` meets its contract: past a block, fewer blocks are left; at the end the reader stays.
-- Assumes nothing.
use Rattle.std.proofs.Common.{sym, ap, ◌∙◌, Some}
use Rattle.reader.specs.declared.Reader.{Reader}
use Rattle.reader.specs.Reader.{Place, led_to}
use Rattle.reader.specs.Laws.{led_on, led_nowhere, goes_on}
use Rattle.reader.proofs.ReaderIterator.next.Goals as goal

-- a reader of the same copy at the place that a step led to
abbrev at_place : Reader → Place → Reader
at_place r p = record { copy = r.copy; at = p.at }

pub returns-in-Some-clause-steps : goal.returns-in-Some-clause-steps
returns-in-Some-clause-steps c =
    let r = c.args.self.now in
    let e = ap (led_to r.at) (sym c.in-Some.is) ∙ c.place_at.ensures in
    (sym (led_on _ _ _ e).more, c.part-block.ensures.0, c.part-block.ensures.1, ap (at_place r) e)

pub returns-in-Some-clause-goes : goal.returns-in-Some-clause-goes
returns-in-Some-clause-goes c =
    let r = c.args.self.now in
    let e = ap (led_to r.at) (sym c.in-Some.is) ∙ c.place_at.ensures in
    goes_on r (Some c.part-block.result) c.in-Some.after (sym (led_on _ _ _ e).more) (ap (λ (p : Place). p.at) e)

pub returns-in-None-clause-steps : goal.returns-in-None-clause-steps
returns-in-None-clause-steps c =
    let r = c.args.self.now in
    let e = ap (led_to r.at) (sym c.in-None.is) ∙ c.place_at.ensures in
    (sym (led_nowhere _ _ e), tt, tt, ap (at_place r) e)
