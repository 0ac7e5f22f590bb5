-- `stl::reading::in_range` meets its contract: larger patterns stand for larger sizes.
-- Assumes nothing.
use Rattle.stl_reading.proofs.PatternLaws.{pattern_within}
use Rattle.stl_reading.proofs.reading.in_range.Goals as goal

pub returns : goal.returns
returns c = pattern_within _
