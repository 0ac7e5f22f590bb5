-- What the private functions promise each other.
use Rattle.std.specs.Prelude.{ℕ, ◌<◌, ◌≤◌, ◌≡◌, Bool, cond, List, Float, length, get_or}
use Rattle.lists.specs.Threes.{Three, three, threes_in}
use Rattle.table.specs.Table.{rows_of, table}
use Rattle.edges.specs.Steps.{Accepted}
use Rattle.groups.specs.CellEdges.{edges_in}
use Rattle.tetrahedra.specs.ClosedEdges.{closed_edges}
use Rattle.tetrahedra.specs.ClosedTriangles.{closed_triangles}
use Rattle.winding.specs.declared.Spot.{Spot}
use Rattle.winding.specs.Spots.{halfway, in_front}
use Rattle.winding.specs.Winding.{turn_if}

-- a triangle's vertices are edges of two lists
pub record Numbers (first second : List ℕ) (f : Three ℕ) : Type 0 where
  pub even : length second ≡ length first
  pub a : f.a < length first
  pub b : f.b < length first
  pub c : f.c < length first

-- the middle of a vertex's edge
abbrev pub middle_in : List ℕ → List ℕ → ℕ → Spot
middle_in first second u = halfway (get_or first u 0) (get_or second u 0)

-- the inside one of an edge's two cells, by the side of the first
abbrev pub inner_in : Bool → List ℕ → List ℕ → ℕ → ℕ
inner_in side first second u = cond side (get_or first u 0) (get_or second u 0)

-- a triangle looks inwards, by the side of its first edge's first cell
unfoldable pub looks_at : Bool → List ℕ → List ℕ → Three ℕ → Bool
unfolding in_front
looks_at side first second f =
    in_front (middle_in first second f.a) (middle_in first second f.b) (middle_in first second f.c)
    (halfway (inner_in side first second f.a) (inner_in side first second f.a))

-- the triangle at a place
abbrev pub three_at : List ℕ → List ℕ → List ℕ → ℕ → Three ℕ
three_at is js ls i = three (get_or is i 0) (get_or js i 0) (get_or ls i 0)

-- turned, where it looks inwards
abbrev pub turned_at : Bool → List ℕ → List ℕ → List ℕ → List ℕ → List ℕ → ℕ → Three ℕ
turned_at side first second is js ls i = turn_if (looks_at side first second (three_at is js ls i)) (three_at is js ls i)

-- a place of three lists where a triangle of two lists of edges stands
pub record AtHand (first second is js ls : List ℕ) (i : ℕ) : Type 0 where
  pub numbers : Numbers first second (three_at is js ls i)
  pub t0 : i < length is
  pub t1 : i < length js
  pub t2 : i < length ls

-- an accepted table, two lists that hold its closed edges in front, and three that hold its closed triangles
pub record Ready (ks : List ℕ) (ds ws : List Float) (n : ℕ) (first second : List ℕ) (m : ℕ) (is js ls : List ℕ) (j : ℕ) : Type 0 where
  pub accepted : Accepted (table ks ds ws n)
  pub even : length second ≡ length first
  pub fits : m ≤ length first
  pub edges : edges_in first second m ≡ closed_edges (rows_of ks ds ws n)
  pub t0 : j ≤ length is
  pub t1 : j ≤ length js
  pub t2 : j ≤ length ls
  pub triangles : threes_in is js ls j ≡ closed_triangles (rows_of ks ds ws n)
