-- Looking up a cell's distance.
use Rattle.std.specs.Prelude.{ℕ, cond, List, ltb, length, get_or, take, Float, Some, None, Option}
use Rattle.std.specs.Float.{nan}
use Rattle.floats.specs.Floats.{zero32}
use Rattle.search.specs.Keys.{find_by}

-- what is stored of each cell
abbrev pub Lookup : Type 0
Lookup = ℕ → Option Float

-- the distance at a place that was found
unfoldable pub distance_at : List Float → Option ℕ → Option Float
distance_at ds (Some place) = cond (ltb place (length ds)) (Some (get_or ds place nan)) None
distance_at ds None = None

-- The distance by the search by halves among the first n keys, in whatever order they stand. On an accepted table it is that of the row (vertices' TableLaws).
abbrev pub distance_by : List ℕ → List Float → ℕ → Lookup
distance_by ks ds n key = distance_at ds (find_by key (take n ks))

-- the distance, 0 where none is stored
unfoldable pub or_zero : Option Float → Float
or_zero (Some d) = d
or_zero None = zero32
