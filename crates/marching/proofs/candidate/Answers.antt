-- `marching::candidate` meets its contract.
-- Assumes nothing.
use Rattle.marching.specs.March.{candidate}
use Rattle.marching.proofs.candidate.Goals as goal

pub returns : goal.returns
unfolding candidate
returns c = rw (c.size.ensures, c.sign.ensures)
