-- `marching::better` meets its contract, by its test.
-- Assumes nothing.
use Rattle.marching.proofs.better.Goals as goal

pub returns-then-size : goal.returns-then-size
returns-then-size c = rw (← c.size.ensures, ← c.size-2.ensures, c.if-size.true)

pub returns-else-size : goal.returns-else-size
returns-else-size c = rw (← c.size.ensures, ← c.size-2.ensures, c.if-size.false)
