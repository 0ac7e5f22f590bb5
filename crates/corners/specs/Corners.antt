-- What area, box and statistics are lent: sets of three lists side by side, and their tests.
use Rattle.std.specs.Prelude.{ℕ, Bool, true, ◌&&◌, List, [], ◌∷◌, eqb, leb, ltb, take, Float}
use Rattle.lists.specs.Beside.{beside_by}
use Rattle.floats.specs.Floats.{f32, within}
use Rattle.slopes.specs.declared.Vertex.{Vertex}

-- equal lengths of at most 1,048,576, and no more entries than places
abbrev pub set_ok : ℕ → ℕ → ℕ → ℕ → Bool
set_ok a b c n = eqb a b && (eqb a c && (leb a 1048576 && leb n a))

-- every element passes a test
unfoldable pub every : {A : Type 0} → (A → Bool) → List A → Bool
every test [] = true
every test (x ∷ xs) = test x && every test xs

-- a vertex by its coordinates
abbrev pub vertex : Float → Float → Float → Vertex
vertex x y z = record { x = record { 0 = x }; y = record { 0 = y }; z = record { 0 = z } }

-- the vertices of the first n places
abbrev pub vertices_in : List Float → List Float → List Float → ℕ → List Vertex
vertices_in xs ys zs n = take n (beside_by vertex xs ys zs)

-- 100,000,000
abbrev pub farthest : Float
farthest = f32 0x4CBE_BC20

-- finite and at most 100,000,000 in size
abbrev pub vertex_ok : Vertex → Bool
vertex_ok v = within farthest v.x.0 && (within farthest v.y.0 && within farthest v.z.0)

-- three vertices by their numbers
pub record Triangle : Type 0 where
  pub first : ℕ
  pub second : ℕ
  pub third : ℕ

abbrev pub triangle : ℕ → ℕ → ℕ → Triangle
triangle i j k = record { first = i; second = j; third = k }

-- the triangles of the first m places
abbrev pub triangles_in : List ℕ → List ℕ → List ℕ → ℕ → List Triangle
triangles_in is js ks m = take m (beside_by triangle is js ks)

-- it names three of n vertices
abbrev pub triangle_ok : ℕ → Triangle → Bool
triangle_ok n t = ltb t.first n && (ltb t.second n && ltb t.third n)
