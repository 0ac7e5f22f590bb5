-- `winding::product` meets its contract: coordinates are small.
-- Assumes nothing.
use native.Mathlib.Omega.{arith}
use Rattle.winding.proofs.SpotLaws.{square_small, product_small}
use borrow.Author.Rules.{rules}
use Rattle.winding.proofs.product.Goals as goal

pub overflow_mul-result : goal.overflow_mul-result
overflow_mul-result c = record { fits = omega (arith, square_small _ _ c.requires.1 c.requires.2) }

pub overflow_mul-result-2 : goal.overflow_mul-result-2
overflow_mul-result-2 c = record { fits = omega (arith, product_small _ _ _ c.requires.0 c.requires.1 c.requires.2) }

pub returns : goal.returns
returns c =
    record {
      value = search rules;
      upper_bound = product_small _ _ _ c.requires.0 c.requires.1 c.requires.2;
    }
