-- `marks::home` meets its contract: it is the definition's test.
-- Assumes nothing.
use borrow.Author.Tests.{lt-ltb, le-ltb}
use Rattle.marks.specs.Marks.{home}
use Rattle.marks.proofs.home.Goals as goal

pub returns-then-places-lt8 : goal.returns-then-places-lt8
unfolding home
returns-then-places-lt8 c = rw (lt-ltb _ 8 c.if-places-lt8.true)

pub returns : goal.returns
unfolding home
returns c = rw (le-ltb _ 8 c.if-places-lt8.false)
