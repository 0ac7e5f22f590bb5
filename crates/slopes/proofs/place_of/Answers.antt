-- `slopes::place_of` meets its contract, by what the conversion gives.
-- Assumes nothing.
use Rattle.slopes.proofs.place_of.Goals as goal

pub returns : goal.returns
returns c = rw (c.metres_of-p1.ensures, c.metres_of-p2.ensures)
