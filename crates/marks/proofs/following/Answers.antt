-- `marks::following` meets its contract: it is the definition's test.
-- Assumes nothing.
use borrow.Author.Tests.{lt-ltb, le-ltb}
use Rattle.marks.specs.Marks.{following}
use Rattle.marks.proofs.following.Goals as goal

pub returns-then-i-places : goal.returns-then-i-places
unfolding following
returns-then-i-places c = rw (lt-ltb _ _ c.if-i-places.true)

pub returns-else-i-places : goal.returns-else-i-places
unfolding following
returns-else-i-places c = rw (le-ltb _ _ c.if-i-places.false)
