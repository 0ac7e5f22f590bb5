-- `ids::spread_coord` meets its contract: 16 bits are spread by bytes.
-- Assumes nothing.
use native.Mathlib.Omega.{arith}
use Rattle.ids.proofs.MortonLaws.{spread_bytes, spread_small}
use Rattle.ids.proofs.spread_coord.Goals as goal

pub returns : goal.returns
returns c =
    let x = c.args.x in
    record {
      value = omega (arith, spread_bytes x);
      upper_bound = omega (arith, spread_bytes x, spread_small 16 x);
    }
