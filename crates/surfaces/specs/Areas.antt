-- The area of a mesh: half the length of a cross product for each triangle, added up in order.
use Rattle.std.specs.Prelude.{ℕ, cond, ◌&&◌, List, [], ◌∷◌, length, get_or, Float, Ok, Err, Result}
use Rattle.std.specs.Float.{binary32}
use Rattle.std.specs.Float.Ieee.{add, sub, mul}
use Rattle.floats.specs.Floats.{zero32}
use Rattle.refusals.specs.Refusals.{number_of}
use Rattle.refusals.specs.declared.Refusal.TheVariants.{Lengths, BadVertex}
use Rattle.slopes.specs.declared.Vertex.{Vertex}
use Rattle.slopes.specs.Vertices.{half}
use Rattle.slopes.specs.Normals.{length_of}
use Rattle.surfaces.specs.declared.Arrow.{Arrow}
use Rattle.corners.specs.Corners.{set_ok, every, vertex, vertices_in, vertex_ok, Triangle, triangles_in, triangle_ok}
use Rattle.refusals.specs.declared.Refusal.{Refusal}

-- from one vertex to another
unfoldable pub arrow_of : Vertex → Vertex → Arrow
arrow_of v w =
    record {
      x = sub binary32 w.x.0 v.x.0;
      y = sub binary32 w.y.0 v.y.0;
      z = sub binary32 w.z.0 v.z.0;
    }

-- e × f
unfoldable pub cross_of : Arrow → Arrow → Arrow
cross_of e f =
    record {
      x = sub binary32 (mul binary32 e.y f.z) (mul binary32 e.z f.y);
      y = sub binary32 (mul binary32 e.z f.x) (mul binary32 e.x f.z);
      z = sub binary32 (mul binary32 e.x f.y) (mul binary32 e.y f.x);
    }

-- half the length of (v1 - v0) × (v2 - v0)
unfoldable pub area_between : Vertex → Vertex → Vertex → Float
unfolding arrow_of cross_of
area_between v0 v1 v2 =
    let c = cross_of (arrow_of v0 v1) (arrow_of v0 v2) in
    mul binary32 half (length_of c.x c.y c.z)

-- vertex k
abbrev pub numbered : List Vertex → ℕ → Vertex
numbered vs k = get_or vs k (vertex zero32 zero32 zero32)

-- a sum with the areas of some triangles, in order
unfoldable pub area_from : List Vertex → Float → List Triangle → Float
unfolding area_between
area_from vs sum [] = sum
area_from vs sum (t ∷ ts) =
    area_from vs (add binary32 sum (area_between (numbered vs t.first) (numbered vs t.second) (numbered vs t.third))) ts

-- refused with 2 for lengths, then with 10 for a vertex out of range or a triangle that names no vertex
unfoldable pub area_answer : List Float → List Float → List Float → ℕ → List ℕ → List ℕ → List ℕ → ℕ → Result Float Refusal
unfolding area_from every
area_answer xs ys zs n is js ks m =
    let vs = vertices_in xs ys zs n in
    let ts = triangles_in is js ks m in
    cond (set_ok (length xs) (length ys) (length zs) n && set_ok (length is) (length js) (length ks) m)
    (cond (every vertex_ok vs && every (triangle_ok n) ts) (Ok (area_from vs zero32 ts)) (Err BadVertex))
    (Err Lengths)

-- document 01's number of the answer, 0 for no refusal, and the area, 0 where it is refused
abbrev pub area_number : Result Float Refusal → ℕ
area_number (Ok a) = 0
area_number (Err why) = number_of why

abbrev pub area_value : Result Float Refusal → Float
area_value (Ok a) = a
area_value (Err why) = zero32
