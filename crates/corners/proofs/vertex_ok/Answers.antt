-- `corners::vertex_ok` meets its contract: its three tests are the definition's.
-- Assumes nothing.
use lib.Ieee.{of_bits}
use Rattle.lists.proofs.Bools.{and_eq}
use Rattle.corners.proofs.vertex_ok.Goals as goal

pub returns : goal.returns
unfolding of_bits
returns c = and_eq c.within.ensures (and_eq c.within-2.ensures c.within-3.ensures)
