-- `stl::reading::passes` meets its contract: coordinate by coordinate.
-- Assumes nothing.
use Rattle.lists.proofs.Bools.{and_eq}
use Rattle.stl_reading.proofs.reading.passes.Goals as goal

pub returns : goal.returns
returns c = and_eq c.in_range.ensures (and_eq c.in_range-2.ensures c.in_range-3.ensures)
