-- Demand 3 of triangles, for the edge list of ascending rows, over any neighbours and any test of two rows; and for the zero crossings.
-- Assumes nothing.
use Prim.Native.Nat.{ℕ}
use mathlib.Core.Path.{◌≡◌}
use mathlib.Core.Bool.{Bool, true}
use mathlib.Core.List.{List}
use Rattle.neighbors.specs.Neighbors.{neighbours, adjacent}
use Rattle.search.specs.Keys.{ascending}
use Rattle.table.specs.Table.{Row}
use Rattle.table.specs.Rows.{keys_of}
use Rattle.edges.specs.Edges.{Edge}
use Rattle.edges.specs.EdgeList.{IsEdgeList}
use Rattle.edges.specs.ZeroCrossing.{crosses_zero, zero_crossing_edges}
use Rattle.edges.proofs.ZeroCrossingLaws.{demand_3_edges}
use Rattle.groups.proofs.Handed.{covered, distinct_edges}
use Rattle.lists.specs.Threes.{Three}
use Rattle.triangles.specs.Triangles.{triangles}
use Rattle.triangles.specs.TriangleList.{Meet, IsTriangleList}
use Rattle.triangles.proofs.TriangleLaws.{triangles_are, triangles_only, one_cell}

module _ (near : ℕ → List ℕ) (adjacent : ℕ → ℕ → Bool) (crosses : Row → Row → Bool) (rows : List Row) (es : List Edge)
    (up : ascending (keys_of rows) ≡ true) (h : IsEdgeList near adjacent crosses rows es) where
  -- The triangle list holds every three edges that meet in one cell, each three once, in document 01's order, and no other.
  pub demand_3_triangles : IsTriangleList es (triangles es (keys_of rows))
  demand_3_triangles = triangles_are es (keys_of rows) (covered near adjacent crosses rows es up h) (distinct_edges es h.once)

  -- It is the only list that does.
  pub demand_3_triangles_only : (l : List (Three ℕ)) → IsTriangleList es l → l ≡ triangles es (keys_of rows)
  demand_3_triangles_only l g = triangles_only es (keys_of rows) (covered near adjacent crosses rows es up h) (distinct_edges es h.once) l g

  -- No three edges meet in two cells.
  pub demand_3_one_cell : (t : Three ℕ) (c d : ℕ) → Meet es c t → Meet es d t → c ≡ d
  demand_3_one_cell t c d m n = one_cell es (keys_of rows) (covered near adjacent crosses rows es up h) (distinct_edges es h.once) t c d m n

-- the same of the zero crossings
pub zero_crossing_triangles :
    (rows : List Row)
    → ascending (keys_of rows) ≡ true
    → IsTriangleList (zero_crossing_edges rows) (triangles (zero_crossing_edges rows) (keys_of rows))
zero_crossing_triangles rows up =
    demand_3_triangles neighbours adjacent crosses_zero rows (zero_crossing_edges rows) up (demand_3_edges rows up)
