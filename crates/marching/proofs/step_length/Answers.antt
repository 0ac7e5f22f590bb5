-- `marching::step_length` meets its contract, by its test.
-- Assumes nothing.
use borrow.Author.Tests.{lt-ltb, le-ltb}
use lib.Ieee.{of_bits, nan_bits}
use Rattle.marching.specs.Lattice.{length_at}
use Rattle.marching.proofs.step_length.Goals as goal

pub float_from_bits-result : goal.float_from_bits-result
unfolding nan_bits
float_from_bits-result c = tt

pub returns-then-place-lt8 : goal.returns-then-place-lt8
unfolding length_at of_bits
returns-then-place-lt8 c = simp (lt-ltb _ _ c.if-place-lt8.true)

pub returns-else-place-lt8 : goal.returns-else-place-lt8
unfolding length_at of_bits
returns-else-place-lt8 c = simp (le-ltb _ _ c.if-place-lt8.false)
