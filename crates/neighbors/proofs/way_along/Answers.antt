-- `neighbors::way_along` meets its contract: the difference under the mask is the way.
-- Assumes nothing.
use native.Mathlib.Omega.{arith}
use lib.Bits.{and_le_r}
use Rattle.ids.proofs.KeyLaws.{coord_small}
use Rattle.ids.specs.Morton.{gather}
use Rattle.neighbors.proofs.StepLaws.{stay_along}
use Rattle.neighbors.proofs.WayLaws.{way}
use Rattle.neighbors.proofs.way_along.Goals as goal

pub overflow_sub-result : goal.overflow_sub-result
overflow_sub-result c = omega (arith, and_le_r c.args.b 0x249249249249)

pub overflow_add-result : goal.overflow_add-result
overflow_add-result c = omega (arith, and_le_r c.args.a 0x249249249249)

pub returns : goal.returns
returns c =
    let a = c.args.a in
    let b = c.args.b in
    rw (stay_along a, stay_along b) (way (gather 16 a) (gather 16 b) (coord_small b))
