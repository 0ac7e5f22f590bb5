-- `surfaces::upper_of` meets its contract: axis by axis.
-- Assumes nothing.
use Rattle.surfaces.specs.Boxes.{upper_of}
use Rattle.surfaces.proofs.upper_of.Goals as goal

pub returns : goal.returns
unfolding upper_of
returns c = rw (c.larger.ensures, c.larger-2.ensures, c.larger-3.ensures)
