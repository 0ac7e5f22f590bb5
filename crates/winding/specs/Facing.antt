-- Which way a triangle runs, by its tetrahedron's corners alone.
use Rattle.std.specs.Prelude.{ℕ, ◌≡◌, Bool, true, List, [], ◌∷◌, map, length}
use Rattle.std.specs.Float.Ieee.{unlike}
use Rattle.lists.specs.Lists.{◌∈◌, Distinct, kept}
use Rattle.lists.specs.Threes.{Three}
use Rattle.table.specs.Table.{Row}
use Rattle.edges.specs.Edges.{Edge}
use Rattle.tetrahedra.specs.Fours.{Four, Corner, at}
use Rattle.tetrahedra.specs.Tetrahedra.{tetrahedra}
use Rattle.tetrahedra.specs.ClosedEdges.{inside_at, closed_edges}
use Rattle.tetrahedra.specs.ClosedTriangles.{vertex_of, triangles_of}
use Rattle.winding.specs.Spots.{cell_spot, in_front}
use Rattle.winding.specs.Winding.{outwards, runs_through}

-- four cells are left-handed: the determinant of l - k, m - k and n - k is below 0
unfoldable pub left_handed : ℕ → ℕ → ℕ → ℕ → Bool
unfolding in_front
left_handed k l m n = in_front (cell_spot l) (cell_spot k) (cell_spot m) (cell_spot n)

-- the triangles of a tetrahedron, turned
abbrev pub turned_of : List Row → List Edge → Four → List (Three ℕ)
turned_of rows es t = map (outwards rows es) (triangles_of rows es t)

-- i and the two corners j, k of the other sign, in a tetrahedron with the corners i, j, k, l: right-handed in this order where i is inside, left-handed
-- where it is outside. (Right-handed: seen from l, the corners i, j, k turn to the left.)
pub record Facing (rows : List Row) (t : Four) (i j k l : Corner) : Type 0 where
  pub listed : t ∈ tetrahedra rows
  pub all : Distinct (i ∷ j ∷ k ∷ l ∷ [])
  pub j_crossed : unlike (inside_at rows (at t i)) (inside_at rows (at t j)) ≡ true
  pub k_crossed : unlike (inside_at rows (at t i)) (inside_at rows (at t k)) ≡ true
  pub hand : unlike (left_handed (at t i) (at t j) (at t k) (at t l)) (inside_at rows (at t i)) ≡ true

-- then one triangle of the tetrahedron runs from the vertex between i, j to the one between i, k, and none back: its front is on the outside
abbrev pub LooksOut : List Row → Type 0
LooksOut rows =
    (t : Four) (i j k l : Corner) → Facing rows t i j k l
    → (length (kept (runs_through (vertex_of (closed_edges rows) t i j) (vertex_of (closed_edges rows) t i k)) (turned_of rows (closed_edges rows) t)) ≡ 1)
    × (length (kept (runs_through (vertex_of (closed_edges rows) t i k) (vertex_of (closed_edges rows) t i j)) (turned_of rows (closed_edges rows) t)) ≡ 0)

-- and every triangle of the tetrahedron is such a one
pub record Outwards (rows : List Row) (t : Four) (f : Three ℕ) : Type 0 where
  pub i : Corner
  pub j : Corner
  pub k : Corner
  pub l : Corner
  pub facing : Facing rows t i j k l
  pub way : runs_through (vertex_of (closed_edges rows) t i j) (vertex_of (closed_edges rows) t i k) f ≡ true

abbrev pub EveryLooksOut : List Row → Type 0
EveryLooksOut rows = (t : Four) (f : Three ℕ) → t ∈ tetrahedra rows → f ∈ turned_of rows (closed_edges rows) t → Outwards rows t f
