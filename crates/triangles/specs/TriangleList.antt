-- Demand 3 of a triangle list.
use Rattle.std.specs.Prelude.{ℕ, ◌<◌, ◌≡◌, ◌⊎◌, List}
use Rattle.lists.specs.Lists.{◌∈◌, Ordered, Distinct}
use Rattle.edges.specs.Edges.{Edge}
use Rattle.groups.specs.Groups.{EndsAt}
use Rattle.lists.specs.Threes.{Three, Dictionary}

-- three edges, by their numbers ascending, that meet in a cell
pub record Meet (es : List Edge) (cell : ℕ) (t : Three ℕ) : Type 0 where
  pub a_b : t.a < t.b
  pub b_c : t.b < t.c
  pub a_ends : EndsAt es t.a cell
  pub b_ends : EndsAt es t.b cell
  pub c_ends : EndsAt es t.c cell

-- document 01's order: by the cell where the edges meet, then dictionary order
pub record Before (es : List Edge) (t u : Three ℕ) : Type 0 where
  pub cell : ℕ
  pub other : ℕ
  pub meet : Meet es cell t
  pub meet_other : Meet es other u
  pub order : (cell < other) ⊎ ((cell ≡ other) × Dictionary t u)

-- l is the triangle list of edges
pub record IsTriangleList (es : List Edge) (l : List (Three ℕ)) : Type 0 where
  -- it holds every three edges that meet in one cell,
  pub every : (cell : ℕ) (t : Three ℕ) → Meet es cell t → t ∈ l
  -- and no other,
  pub only : (t : Three ℕ) → t ∈ l → (cell : ℕ) × Meet es cell t
  -- each three once,
  pub once : Distinct l
  -- in document 01's order
  pub ordered : Ordered (Before es) l
