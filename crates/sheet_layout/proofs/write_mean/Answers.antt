-- `sheet_layout::write_mean` meets its contract: the puts follow one another from byte 0 to the end.
-- Assumes nothing.
use Rattle.sheet_layout.specs.Steps.{mean_by_test}
use Rattle.sheet_layout.proofs.write_mean.Goals as goal

pub returns : goal.returns
returns c =
    let a = c.args in
    mean_by_test (record { given = a.given; whole = a.whole; rest = a.rest }) c.put_le.ensures c.put_le-2.ensures c.put_le-3.ensures
