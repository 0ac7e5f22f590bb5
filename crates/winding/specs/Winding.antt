-- One winding: each triangle of the closed mesh looks outwards, from the inside corners of its tetrahedron to the outside ones.
use Rattle.std.specs.Prelude.{ℕ, ◌≡◌, ◌⊎◌, Bool, true, false, cond, ◌&&◌, ◌||◌, List, [], ◌∷◌, map, eqb, length}
use Rattle.lists.specs.Lists.{◌∈◌, kept}
use Rattle.lists.specs.Threes.{Three, three}
use Rattle.table.specs.Table.{Row}
use Rattle.edges.specs.Edges.{Edge}
use Rattle.groups.specs.Groups.{edge_at}
use Rattle.tetrahedra.specs.Fours.{Four, Corner, at}
use Rattle.tetrahedra.specs.Tetrahedra.{tetrahedra}
use Rattle.tetrahedra.specs.ClosedEdges.{inside_at, closed_edges}
use Rattle.tetrahedra.specs.ClosedTriangles.{triangles_of, closed_triangles}
use Rattle.tetrahedra.specs.Closing.{IsSide, Within, Shared}
use Rattle.winding.specs.declared.Spot.{Spot}
use Rattle.winding.specs.Spots.{halfway, in_front, points_from_to}

-- ---- which way a triangle looks: its vertices are taken in the middles of their edges

-- the middle of a vertex's edge
abbrev pub middle_of : List Edge → ℕ → Spot
middle_of es u = halfway (edge_at es u).first (edge_at es u).second

-- a cell lies in front of a triangle
abbrev pub faces : List Edge → Three ℕ → ℕ → Bool
faces es f k = in_front (middle_of es f.a) (middle_of es f.b) (middle_of es f.c) (halfway k k)

-- a triangle's normal points from a cell to another
abbrev pub normal_from_to : List Edge → Three ℕ → ℕ → ℕ → Bool
normal_from_to es f k l = points_from_to (middle_of es f.a) (middle_of es f.b) (middle_of es f.c) (halfway k k) (halfway l l)

-- of an edge's two cells, of which one is inside, that one
abbrev pub inside_end : List Row → Edge → ℕ
inside_end rows e = cond (inside_at rows e.first) e.first e.second

-- a triangle looks inwards: the inside cell of its first vertex's edge lies in front of it
unfoldable pub looks_in : List Row → List Edge → Three ℕ → Bool
unfolding in_front inside_at
looks_in rows es f = faces es f (inside_end rows (edge_at es f.a))

-- ---- turning

-- the last two vertices swapped
unfoldable pub turn_if : Bool → Three ℕ → Three ℕ
turn_if b f = cond b (three f.a f.c f.b) f

-- a triangle, turned where it looks inwards
abbrev pub outwards : List Row → List Edge → Three ℕ → Three ℕ
outwards rows es f = turn_if (looks_in rows es f) f

-- the triangle list of No. 14, each triangle turned where it looks inwards
unfoldable pub turned_triangles : List Row → List (Three ℕ)
unfolding closed_triangles looks_in turn_if
turned_triangles rows = map (outwards rows (closed_edges rows)) (closed_triangles rows)

-- ---- one winding

-- a triangle runs through a side from u to v
unfoldable pub runs_through : ℕ → ℕ → Three ℕ → Bool
runs_through u v t = (eqb t.a u && eqb t.b v) || ((eqb t.b u && eqb t.c v) || (eqb t.c u && eqb t.a v))

-- how many triangles of a list do
abbrev pub running_with : List (Three ℕ) → ℕ → ℕ → ℕ
running_with ts u v = length (kept (runs_through u v) ts)

-- triangles over a table's edges have one winding: through every side inside a tetrahedron, or on a face that two share, one runs one way and one the other
abbrev pub OneWindingBy : List Row → List Edge → List (Three ℕ) → Type 0
OneWindingBy rows es ts =
    (u v : ℕ) → IsSide ts u v → Within es u v ⊎ Shared rows es u v → (running_with ts u v ≡ 1) × (running_with ts v u ≡ 1)

-- the turned list has one winding
abbrev pub OneWinding : List Row → Type 0
OneWinding rows = OneWindingBy rows (closed_edges rows) (turned_triangles rows)

-- ---- outwards

-- A triangle of a tetrahedron, turned: each outside corner lies in front of it, and each inside corner behind it (in front of what it is turned the other way).
pub record LooksOutward (rows : List Row) (es : List Edge) (f : Three ℕ) : Type 0 where
  pub tetrahedron : Four
  pub listed : tetrahedron ∈ tetrahedra rows
  pub cut : (g : Three ℕ) × (g ∈ triangles_of rows es tetrahedron) × (f ≡ outwards rows es g)
  pub outside : (c : Corner) → inside_at rows (at tetrahedron c) ≡ false → faces es f (at tetrahedron c) ≡ true
  pub inside : (c : Corner) → inside_at rows (at tetrahedron c) ≡ true → faces es (turn_if true f) (at tetrahedron c) ≡ true
  -- so its normal points from the inside corners to the outside ones
  pub normal : (c d : Corner) → inside_at rows (at tetrahedron c) ≡ true → inside_at rows (at tetrahedron d) ≡ false
      → normal_from_to es f (at tetrahedron c) (at tetrahedron d) ≡ true

-- all triangles over a table's edges look outwards
abbrev pub OutwardBy : List Row → List Edge → List (Three ℕ) → Type 0
OutwardBy rows es ts = (f : Three ℕ) → f ∈ ts → LooksOutward rows es f

-- ---- the same list but for turning

pub data SameButTurned : List (Three ℕ) → List (Three ℕ) → Type 0 where
  none : SameButTurned [] []
  more : {t : Three ℕ} {l m : List (Three ℕ)} → (b : Bool) → SameButTurned l m → SameButTurned (t ∷ l) (turn_if b t ∷ m)
