-- The area, triangle by triangle.
-- Assumes nothing.
use Prim.Native.Nat.{ℕ, ◌+◌, ◌<◌, ◌≤◌}
use mathlib.Core.Path.{◌≡◌, sym, ◌∙◌}
use mathlib.Core.Bool.{true}
use mathlib.Core.List.{List, ◌∷◌}
use borrow.Author.Tests.{ltb-true}
use lib.Dec.{ltb}
use lib.ListN.{get_or, drop}
use lib.Ieee.{Float, nan, binary32, add, mul}
use Rattle.lists.proofs.Bools.{and_first, and_second}
use Rattle.floats.specs.Floats.{zero32}
use Rattle.slopes.specs.declared.Vertex.{Vertex}
use Rattle.slopes.specs.Vertices.{half}
use Rattle.slopes.specs.Normals.{length_of}
use Rattle.surfaces.specs.declared.Arrow.{Arrow}
use Rattle.corners.specs.Corners.{every, vertex, vertices_in, Triangle, triangle, triangles_in, triangle_ok}
use Rattle.surfaces.specs.Areas.{arrow_of, cross_of, area_between, numbered, area_from}
use Rattle.corners.specs.Steps.{Lent}
use Rattle.corners.proofs.Sets.{next, none_left, entry_is, first_passes}

pub area_is :
    (v0 v1 v2 : Vertex) (a b c : Arrow) (l : Float)
    → a ≡ arrow_of v0 v1
    → b ≡ arrow_of v0 v2
    → c ≡ cross_of a b
    → l ≡ length_of c.x c.y c.z
    → mul binary32 half l ≡ area_between v0 v1 v2
unfolding area_between
area_is v0 v1 v2 a b c l ea eb ec el = rw (el, ec, ea, eb)

area_step :
    (vs : List Vertex) (sum sum' a : Float) (ts rest : List Triangle) (t : Triangle) (v0 v1 v2 : Vertex)
    → ts ≡ t ∷ rest
    → numbered vs t.first ≡ v0
    → numbered vs t.second ≡ v1
    → numbered vs t.third ≡ v2
    → a ≡ area_between v0 v1 v2
    → sum' ≡ add binary32 sum a
    → area_from vs sum ts ≡ area_from vs sum' rest
unfolding area_from
area_step vs sum sum' a ts rest t v0 v1 v2 e e0 e1 e2 ea es = rw (e, e0, e1, e2, es, ea)

-- the numbers of a triangle that passes
names : (n i j k : ℕ) → triangle_ok n (triangle i j k) ≡ true → (i < n) × (j < n) × (k < n)
names n i j k e =
    let s = and_second (ltb i n) _ e in
    (ltb-true i n (and_first _ _ e), ltb-true j n (and_first _ _ s), ltb-true k n (and_second (ltb j n) _ s))

module _ (px py pz : List Float) (n : ℕ) (vs : Lent px py pz n) (t0 t1 t2 : List ℕ) (m : ℕ) (ts : Lent t0 t1 t2 m) (i : ℕ) where
  -- the triangle at place i names three vertices
  pub named : i < m → every (triangle_ok n) (drop i (triangles_in t0 t1 t2 m)) ≡ true → (get_or t0 i 0 < n) × (get_or t1 i 0 < n) × (get_or t2 i 0 < n)
  named h e = names n (get_or t0 i 0) (get_or t1 i 0) (get_or t2 i 0) (first_passes triangle 0 t0 t1 t2 m ts i (triangle_ok n) h e)

  -- one triangle more
  pub area_more :
      (h : i < m) (e : every (triangle_ok n) (drop i (triangles_in t0 t1 t2 m)) ≡ true) (v0 v1 v2 : Vertex) (a sum sum' : Float)
      → v0 ≡ vertex (get_or px (get_or t0 i 0) nan) (get_or py (get_or t0 i 0) nan) (get_or pz (get_or t0 i 0) nan)
      → v1 ≡ vertex (get_or px (get_or t1 i 0) nan) (get_or py (get_or t1 i 0) nan) (get_or pz (get_or t1 i 0) nan)
      → v2 ≡ vertex (get_or px (get_or t2 i 0) nan) (get_or py (get_or t2 i 0) nan) (get_or pz (get_or t2 i 0) nan)
      → a ≡ area_between v0 v1 v2
      → sum' ≡ add binary32 sum a
      → area_from (vertices_in px py pz n) sum (drop i (triangles_in t0 t1 t2 m)) ≡ area_from (vertices_in px py pz n) sum' (drop (i + 1) (triangles_in t0 t1 t2 m))
  area_more h e v0 v1 v2 a sum sum' e0 e1 e2 ea es =
      let k = named h e in
      let vertex_is = entry_is vertex nan px py pz n vs in
      area_step (vertices_in px py pz n) sum sum' a (drop i (triangles_in t0 t1 t2 m))
      (drop (i + 1) (triangles_in t0 t1 t2 m)) (triangle (get_or t0 i 0) (get_or t1 i 0) (get_or t2 i 0)) v0 v1 v2
      (next triangle 0 t0 t1 t2 m ts i h)
      (vertex_is (get_or t0 i 0) (vertex zero32 zero32 zero32) k.0 ∙ sym e0)
      (vertex_is (get_or t1 i 0) (vertex zero32 zero32 zero32) k.1 ∙ sym e1)
      (vertex_is (get_or t2 i 0) (vertex zero32 zero32 zero32) k.2 ∙ sym e2)
      ea es

  pub area_done : (sum : Float) → m ≤ i → area_from (vertices_in px py pz n) sum (drop i (triangles_in t0 t1 t2 m)) ≡ sum
  unfolding area_from
  area_done sum h = rw (none_left triangle 0 t0 t1 t2 m ts i h)
