-- `edges::check` meets its contract: the tests of a call, with its own lists.
-- Assumes nothing.
use Rattle.edges.proofs.check.Goals as goal

pub returns : goal.returns
returns c = rw (← c.outputs_ok.ensures) c.check_with.ensures
