-- The vertices of the second mesh: one per crossed edge of a tetrahedron, by the edge's two keys.
use Rattle.std.specs.Prelude.{ℕ, ◌<◌, ◌≡◌, Bool, true, false, ◌&&◌, List, None, Option, Some}
use Rattle.std.specs.Float.Ieee.{unlike}
use Rattle.lists.specs.Lists.{◌∈◌, Ordered}
use Rattle.neighbors.specs.Neighbors.{neighbours}
use Rattle.table.specs.Table.{Row}
use Rattle.table.specs.Rows.{stored}
use Rattle.rings.specs.Sides.{inside}
use Rattle.rings.specs.Rings.{any}
use Rattle.edges.specs.Edges.{Edge, edges}
use Rattle.edges.specs.EdgeList.{pair_of, SamePair, Before}
use Rattle.tetrahedra.specs.Fours.{Four, Corner, at, holds}
use Rattle.tetrahedra.specs.Tetrahedra.{tetrahedra}

-- what is stored of a cell is inside
abbrev pub inside_of : Option Row → Bool
inside_of None = false
inside_of (Some r) = inside r

-- a stored cell is inside, by its key
unfoldable pub inside_at : List Row → ℕ → Bool
unfolding inside stored
inside_at rows k = inside_of (stored k rows)

-- two cells are corners of one of these tetrahedra
unfoldable pub joint : List Four → ℕ → ℕ → Bool
unfolding any holds
joint ts k l = any (λ (t : Four). holds k t && holds l t) ts

-- one is inside and the other outside, and they are corners of a tetrahedron of the table
unfoldable pub crosses_in : List Row → Row → Row → Bool
unfolding inside joint tetrahedra
crosses_in rows r s = unlike (inside r) (inside s) && joint (tetrahedra rows) r.key s.key

-- the crossed edges, in document 01's order
abbrev pub closed_edges : List Row → List Edge
closed_edges rows = edges neighbours (crosses_in rows) rows

-- two corners of a tetrahedron of the table, one inside and one outside
pub record Crossed (rows : List Row) (t : Four) (i j : Corner) : Type 0 where
  pub listed : t ∈ tetrahedra rows
  pub crossed : unlike (inside_at rows (at t i)) (inside_at rows (at t j)) ≡ true

-- l is the vertex list of rows: demand 3's statement, over tetrahedra
pub record IsVertexList (rows : List Row) (l : List Edge) : Type 0 where
  -- it holds every crossed edge of a tetrahedron,
  pub every : (t : Four) (i j : Corner) → Crossed rows t i j → pair_of (at t i) (at t j) ∈ l
  -- and no other,
  pub only : (e : Edge) → e ∈ l → (t : Four) × (i : Corner) × (j : Corner) × Crossed rows t i j × (e ≡ pair_of (at t i) (at t j))
  -- each once, in either order,
  pub once : Ordered (λ e f. SamePair e f → ⊥) l
  -- smaller key first,
  pub smaller : (e : Edge) → e ∈ l → e.first < e.second
  -- in document 01's order
  pub ordered : Ordered (Before neighbours) l
