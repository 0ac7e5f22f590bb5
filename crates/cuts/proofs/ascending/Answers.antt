-- `cuts::ascending` meets its contract: it asks what the definition asks.
-- Assumes nothing.
use borrow.Author.Tests.{le-leb, lt-leb}
use Rattle.tetrahedra.specs.ClosedTriangles.{rising}
use Rattle.cuts.proofs.ascending.Goals as goal

pub returns-then-y-z : goal.returns-then-y-z
unfolding rising
returns-then-y-z c = rw (le-leb _ _ c.if-x-y.true, le-leb _ _ c.if-y-z.true)

pub returns-then-x-z : goal.returns-then-x-z
unfolding rising
returns-then-x-z c = rw (le-leb _ _ c.if-x-y.true, lt-leb _ _ c.if-y-z.false, le-leb _ _ c.if-x-z.true)

pub returns-else-x-z : goal.returns-else-x-z
unfolding rising
returns-else-x-z c = rw (le-leb _ _ c.if-x-y.true, lt-leb _ _ c.if-y-z.false, lt-leb _ _ c.if-x-z.false)

pub returns-then-x-z-2 : goal.returns-then-x-z-2
unfolding rising
returns-then-x-z-2 c = rw (lt-leb _ _ c.if-x-y.false, le-leb _ _ c.if-x-z-2.true)

pub returns-then-y-z-2 : goal.returns-then-y-z-2
unfolding rising
returns-then-y-z-2 c = rw (lt-leb _ _ c.if-x-y.false, lt-leb _ _ c.if-x-z-2.false, le-leb _ _ c.if-y-z-2.true)

pub returns-else-y-z-2 : goal.returns-else-y-z-2
unfolding rising
returns-else-y-z-2 c = rw (lt-leb _ _ c.if-x-y.false, lt-leb _ _ c.if-x-z-2.false, lt-leb _ _ c.if-y-z-2.false)
