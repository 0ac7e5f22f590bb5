-- Which side of the surface a row is on, and whether it counts.
use Rattle.std.specs.Prelude.{Bool, ◌&&◌, Float}
use Rattle.std.specs.Float.Ieee.{lt, unlike}
use Rattle.floats.specs.Floats.{zero32}
use Rattle.table.specs.Table.{Row}

-- a distance below zero is inside; zeros of both signs are outside
abbrev pub is_inside : Float → Bool
is_inside distance = lt distance zero32

-- a weight above 0
abbrev pub is_positive : Float → Bool
is_positive weight = lt zero32 weight

-- the same of a row
unfoldable pub inside : Row → Bool
inside r = is_inside r.distance

unfoldable pub weighted : Row → Bool
weighted r = is_positive r.weight

-- by the distances and weights of two rows: one is inside and the other outside, and both weights are above 0
unfoldable pub opposed : Float → Float → Float → Float → Bool
opposed distance weight distance' weight' = unlike (is_inside distance) (is_inside distance') && (is_positive weight && is_positive weight')
