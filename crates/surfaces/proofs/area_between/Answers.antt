-- `surfaces::area_between` meets its contract: by what its parts give.
-- Assumes nothing.
use lib.Ieee.{of_bits}
use Rattle.surfaces.proofs.AreaLaws.{area_is}
use Rattle.surfaces.proofs.area_between.Goals as goal

pub returns : goal.returns
unfolding of_bits
returns c =
    area_is _ _ _ _ _ _ _ c.arrow_of.ensures c.arrow_of-2.ensures
    c.cross_of-c.ensures c.length.ensures
