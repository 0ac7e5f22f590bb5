-- `neighbors::are_adjacent` meets its contract: the ways along the axes are those of the coordinates.
-- Assumes nothing.
use Rattle.neighbors.proofs.WayLaws.{adjacent_by}
use Rattle.neighbors.proofs.are_adjacent.Goals as goal

pub returns : goal.returns
returns c =
    rw (c.is_step.ensures, c.way_along-z.ensures, c.way_along-y.ensures, c.way_along-x.ensures)
    (adjacent_by c.args.a c.args.b)
