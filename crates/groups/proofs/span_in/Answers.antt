-- `groups::span_in` meets its contract.
-- Assumes nothing.
use borrow.Author.Tests.{le-leb, lt-leb}
use Rattle.groups.proofs.span_in.Goals as goal

pub returns-then-end-room : goal.returns-then-end-room
returns-then-end-room c = simp (le-leb _ _ c.if-end-room.true)

pub returns-else-end-room : goal.returns-else-end-room
returns-else-end-room c = simp (lt-leb _ _ c.if-end-room.false)
