-- `marching::is_seed` meets its contract, by its tests.
-- Assumes nothing.
use lib.Ieee.{of_bits}
use Rattle.marching.proofs.is_seed.Goals as goal

pub returns-then-size-threshold : goal.returns-then-size-threshold
unfolding of_bits
returns-then-size-threshold c = rw (← c.size.ensures, c.if-size-threshold.true)

pub returns-else-size-threshold : goal.returns-else-size-threshold
unfolding of_bits
returns-else-size-threshold c = rw (← c.size.ensures, c.if-size-threshold.false)
