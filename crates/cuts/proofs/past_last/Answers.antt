-- `cuts::past_last` meets its contract.
-- Assumes nothing.
use borrow.Author.Tests.{le-leb, lt-leb}
use Rattle.cuts.proofs.past_last.Goals as goal

pub returns-then-edges-le-LONGEST_LIST : goal.returns-then-edges-le-LONGEST_LIST
returns-then-edges-le-LONGEST_LIST c = rw (le-leb _ _ c.if-edges-le-LONGEST_LIST.true)

pub returns-else-edges-le-LONGEST_LIST : goal.returns-else-edges-le-LONGEST_LIST
returns-else-edges-le-LONGEST_LIST c = rw (lt-leb _ _ c.if-edges-le-LONGEST_LIST.false)
