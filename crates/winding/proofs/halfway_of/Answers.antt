-- `winding::halfway_of` meets its contract: a coordinate is below 65,536.
-- Assumes nothing.
use Rattle.winding.proofs.SpotLaws.{halfway_small}
use Rattle.winding.proofs.halfway_of.Goals as goal

pub returns : goal.returns
returns c =
    let one = c.morton_decode-a.ensures in
    let other = c.morton_decode-b.ensures in
    record {
      value = rw (one, other);
      small = rw (one, other) (halfway_small _ _);
    }
