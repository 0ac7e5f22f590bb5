-- A surface that closes: sides of triangles, where they lie, and to how many triangles they belong.
use Rattle.std.specs.Prelude.{ℕ, ◌≡◌, ◌⊎◌, Bool, true, ◌&&◌, ◌||◌, List, [], ◌∷◌, eqb, length}
use Rattle.lists.specs.Lists.{◌∈◌, Distinct, All, kept}
use Rattle.table.specs.Table.{Row}
use Rattle.edges.specs.Edges.{Edge}
use Rattle.groups.specs.Groups.{edge_at}
use Rattle.lists.specs.Threes.{Three}
use Rattle.tetrahedra.specs.Fours.{Four, holds}
use Rattle.tetrahedra.specs.Tetrahedra.{tetrahedra}
use Rattle.tetrahedra.specs.ClosedEdges.{closed_edges}
use Rattle.tetrahedra.specs.ClosedTriangles.{closed_triangles}

-- a triangle names a vertex
unfoldable pub names : ℕ → Three ℕ → Bool
names u t = eqb t.a u || (eqb t.b u || eqb t.c u)

-- a triangle has the side u, v, in either order
unfoldable pub has_side : ℕ → ℕ → Three ℕ → Bool
unfolding names
has_side u v t = names u t && names v t

-- two different vertices of a triangle of a list
pub record IsSide (ts : List (Three ℕ)) (u v : ℕ) : Type 0 where
  pub differ : u ≡ v → ⊥
  pub triangle : Three ℕ
  pub listed : triangle ∈ ts
  pub side : has_side u v triangle ≡ true

-- how many triangles of a list have a side
abbrev pub triangles_with : List (Three ℕ) → ℕ → ℕ → ℕ
triangles_with ts u v = length (kept (has_side u v) ts)

-- the corners of the crossed edges of two vertices
abbrev pub ends : List Edge → ℕ → ℕ → List ℕ
ends es u v = (edge_at es u).first ∷ (edge_at es u).second ∷ (edge_at es v).first ∷ (edge_at es v).second ∷ []

-- a tetrahedron has all of some cells as corners
abbrev pub Around : List ℕ → Four → Type 0
Around ks t = All (λ k. holds k t ≡ true) ks

-- four corners: the side lies inside a tetrahedron
abbrev pub Within : List Edge → ℕ → ℕ → Type 0
Within es u v = Distinct (ends es u v)

-- two edges have a corner in common
abbrev pub Meeting : Edge → Edge → Type 0
Meeting e f =
    (e.first ≡ f.first) ⊎ ((e.first ≡ f.second) ⊎ ((e.second ≡ f.first) ⊎ (e.second ≡ f.second)))

-- three corners: the side lies on a face
abbrev pub OnFace : List Edge → ℕ → ℕ → Type 0
OnFace es u v = Meeting (edge_at es u) (edge_at es v)

-- and the face is one of two tetrahedra of the table
pub record Shared (rows : List Row) (es : List Edge) (u v : ℕ) : Type 0 where
  pub face : OnFace es u v
  pub one : Four
  pub other : Four
  pub differ : one ≡ other → ⊥
  pub one_listed : one ∈ tetrahedra rows
  pub other_listed : other ∈ tetrahedra rows
  pub one_around : Around (ends es u v) one
  pub other_around : Around (ends es u v) other

-- triangles over a table's edges close: every side inside a tetrahedron, or on a face that two share, belongs to exactly two of them
abbrev pub ClosesBy : List Row → List Edge → List (Three ℕ) → Type 0
ClosesBy rows es ts = (u v : ℕ) → IsSide ts u v → Within es u v ⊎ Shared rows es u v → triangles_with ts u v ≡ 2

-- the surface closes
abbrev pub Closes : List Row → Type 0
Closes rows = ClosesBy rows (closed_edges rows) (closed_triangles rows)
