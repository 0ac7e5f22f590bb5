-- `surfaces::lower_of` meets its contract: axis by axis.
-- Assumes nothing.
use Rattle.surfaces.specs.Boxes.{lower_of}
use Rattle.surfaces.proofs.lower_of.Goals as goal

pub returns : goal.returns
unfolding lower_of
returns c = rw (c.smaller.ensures, c.smaller-2.ensures, c.smaller-3.ensures)
