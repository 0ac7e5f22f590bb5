-- `marching::onward` meets its contract.
-- Assumes nothing.
use lib.Ieee.{of_bits, nan_bits}
use Rattle.marching.proofs.onward.Goals as goal

pub float_from_bits-result : goal.float_from_bits-result
unfolding nan_bits
float_from_bits-result c = tt

pub returns : goal.returns
unfolding of_bits
returns c = rw c.size.ensures
