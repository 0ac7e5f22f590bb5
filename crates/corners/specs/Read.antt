-- Vertices and triangles that are lent to be read: three lists side by side.
use Rattle.std.specs.Prelude.{ℕ, Bool, List, length, Float}
use Rattle.slopes.specs.declared.Vertex.{Vertex}
use Rattle.corners.specs.Corners.{set_ok, vertices_in, Triangle, triangles_in}
use Rattle.corners.specs.Steps.{Lent}
use Rattle.corners.specs.declared.Threes.{Threes}

-- equal lengths within the limit, and no more entries than places
abbrev pub threes_ok : {A : Type 0} → Threes A → Bool
threes_ok t = set_ok (length t.first.now) (length t.second.now) (length t.third.now) t.count

-- what passes that: equal lengths, with so many places at least
abbrev pub Lies : {A : Type 0} → Threes A → Type 0
Lies t = Lent t.first.now t.second.now t.third.now t.count

-- the vertices
abbrev pub points_in : Threes Float → List Vertex
points_in t = vertices_in t.first.now t.second.now t.third.now t.count

-- the triangles
abbrev pub numbers_in : Threes ℕ → List Triangle
numbers_in t = triangles_in t.first.now t.second.now t.third.now t.count
