-- A cell's distance by the rows of a table.
use Rattle.std.specs.Prelude.{List, Some, None, Option, Float}
use Rattle.table.specs.Table.{Row}
use Rattle.table.specs.Rows.{stored}
use Rattle.slopes.specs.Stored.{Lookup}

-- the distance of a row
unfoldable pub distance_of : Option Row → Option Float
distance_of None = None
distance_of (Some r) = Some r.distance

-- the distance of the row with the key, where there is one
abbrev pub distance_in : List Row → Lookup
distance_in rows key = distance_of (stored key rows)
