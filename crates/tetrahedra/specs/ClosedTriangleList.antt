-- What the triangle list of the second mesh is to be, whatever way it is made: demand 3's statement, over tetrahedra.
use Rattle.std.specs.Prelude.{ℕ, ◌≡◌, ◌⊎◌, List}
use Rattle.lists.specs.Lists.{◌∈◌, Ordered, Distinct, Ahead}
use Rattle.table.specs.Table.{Row}
use Rattle.edges.specs.Edges.{Edge}
use Rattle.lists.specs.Threes.{Three}
use Rattle.tetrahedra.specs.Fours.{Four, Dictionary4}
use Rattle.tetrahedra.specs.Tetrahedra.{tetrahedra}
use Rattle.tetrahedra.specs.ClosedTriangles.{triangles_of}

-- a triangle of a tetrahedron of the table, its vertices numbered by a list of edges
pub record Of (rows : List Row) (es : List Edge) (t : Four) (f : Three ℕ) : Type 0 where
  pub listed : t ∈ tetrahedra rows
  pub cut : f ∈ triangles_of rows es t

-- the order: by tetrahedra; of one tetrahedron, as its two are given
pub record Before (rows : List Row) (es : List Edge) (f g : Three ℕ) : Type 0 where
  pub t : Four
  pub u : Four
  pub f_of : Of rows es t f
  pub g_of : Of rows es u g
  pub order : Dictionary4 t u ⊎ ((t ≡ u) × Ahead (triangles_of rows es t) f g)

-- l is the triangle list of rows
pub record IsClosedTriangleList (rows : List Row) (es : List Edge) (l : List (Three ℕ)) : Type 0 where
  -- it holds every triangle of a tetrahedron,
  pub every : (t : Four) (f : Three ℕ) → Of rows es t f → f ∈ l
  -- and no other,
  pub only : (f : Three ℕ) → f ∈ l → (t : Four) × Of rows es t f
  -- each once,
  pub once : Distinct l
  -- in order
  pub ordered : Ordered (Before rows es) l
