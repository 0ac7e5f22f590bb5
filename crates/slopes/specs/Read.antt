-- Cells' distances that are lent to be read.
use Rattle.std.specs.Prelude.{ℕ, Float, Option}
use Rattle.stored.specs.declared.Distances.{Distances}
use Rattle.slopes.specs.Stored.{distance_by}

-- what is stored of each key
abbrev pub stored_by : Distances → ℕ → Option Float
stored_by d = distance_by d.keys.now d.distances.now d.count
