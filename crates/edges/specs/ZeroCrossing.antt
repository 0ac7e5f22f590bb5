-- The zero-crossing edges: both weights are nonzero and the f32 product of the distances is below zero.
use Rattle.std.specs.Prelude.{Bool, ◌&&◌, List, Float}
use Rattle.std.specs.Float.{binary32}
use Rattle.std.specs.Float.Ieee.{mul, lt, ne}
use Rattle.floats.specs.Floats.{zero32}
use Rattle.neighbors.specs.Neighbors.{neighbours}
use Rattle.table.specs.Table.{Row}
use Rattle.edges.specs.Edges.{Edge, edges}

-- by the distances and weights of two rows
unfoldable pub crossing : Float → Float → Float → Float → Bool
crossing distance weight distance' weight' =
    ne weight zero32 && (ne weight' zero32 && lt (mul binary32 distance distance') zero32)

abbrev pub crosses_zero : Row → Row → Bool
crosses_zero r s = crossing r.distance r.weight s.distance s.weight

abbrev pub zero_crossing_edges : List Row → List Edge
zero_crossing_edges rows = edges neighbours crosses_zero rows
