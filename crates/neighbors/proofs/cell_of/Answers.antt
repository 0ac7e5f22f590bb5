-- `neighbors::cell_of` meets its contract.
-- Assumes nothing.
use borrow.Author.Tests.{lt-ltb, le-ltb}
use Rattle.neighbors.specs.Steps.{cell_of}
use Rattle.neighbors.proofs.cell_of.Goals as goal

pub returns-then-low-lt-HEAD : goal.returns-then-low-lt-HEAD
unfolding cell_of
returns-then-low-lt-HEAD c = rw (lt-ltb _ _ c.if-low-lt-HEAD.true)

pub returns-else-low-lt-HEAD : goal.returns-else-low-lt-HEAD
unfolding cell_of
returns-else-low-lt-HEAD c = rw (le-ltb _ _ c.if-low-lt-HEAD.false)
