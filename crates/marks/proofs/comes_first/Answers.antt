-- `marks::comes_first` meets its contract: it is the definition's test.
-- Assumes nothing.
use borrow.Author.Tests.{le-leb, lt-leb}
use Rattle.marks.specs.Marks.{comes_first}
use Rattle.marks.proofs.comes_first.Goals as goal

pub returns-then-start-a : goal.returns-then-start-a
unfolding comes_first
returns-then-start-a c = rw (le-leb _ _ c.if-start-a.true)

pub returns-else-start-a : goal.returns-else-start-a
unfolding comes_first
returns-else-start-a c = rw (lt-leb _ _ c.if-start-a.false)
