-- `winding::triple_of` meets its contract: the products are the definition's.
-- Assumes nothing.
use Rattle.winding.specs.Spots.{triple}
use Rattle.winding.proofs.triple_of.Goals as goal

pub returns-clause-value : goal.returns-clause-value
unfolding triple
returns-clause-value c = rw (c.product.ensures.value, c.product-2.ensures.value, c.product-3.ensures.value)
