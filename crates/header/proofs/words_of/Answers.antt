-- `header::words_of` meets its contract: ?
-- Assumes nothing.
use Rattle.header.specs.Back.{words_are}
use Rattle.header.proofs.words_of.Goals as goal

pub returns : goal.returns
returns c = words_are c.args.oui c.args.last
