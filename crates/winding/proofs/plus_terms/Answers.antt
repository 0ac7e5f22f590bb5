-- `winding::plus_terms` meets its contract: the products are the definition's.
-- Assumes nothing.
use Rattle.winding.specs.Spots.{plus_terms}
use Rattle.winding.proofs.plus_terms.Goals as goal

pub returns : goal.returns
unfolding plus_terms
returns c = rw (c.triple_of.ensures.value, c.triple_of-2.ensures.value, c.triple_of-3.ensures.value, c.triple_of-4.ensures.value)
