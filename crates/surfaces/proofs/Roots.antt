-- No accepted mesh meets a root that is refused, and no vertex of an accepted table a refusal 10: sizes stay far below the largest float.
-- Assumes nothing.
use Prim.Native.Nat.{ℕ, ◌+◌, ◌*◌, ◌^◌, ◌≤◌}
use native.Mathlib.Omega.{arith}
use mathlib.Core.Path.{◌≡◌, refl, sym, ap, ◌∙◌}
use mathlib.Core.Bool.{true, false≢true}
use mathlib.Core.List.{List, [], ◌∷◌}
use lib.Dec.{lit<, lit≤}
use lib.Ieee.{Float, nan, inf, fin, binary32, up, down, sub, mul, le, lt, eq, of_bits}
use Rattle.lists.proofs.Bools.{and_first, and_second, and_eq}
use Rattle.floats.specs.Floats.{thousand, size_of, is_finite, within, positive_to}
use Rattle.floats.proofs.Order.{within_size}
use Rattle.root.specs.Root.{root_of}
use Rattle.slopes.specs.declared.Vertex.{Vertex}
use Rattle.slopes.specs.Vertices.{half, vertex_of, vertex_at, vertices_of}
use Rattle.slopes.specs.Stored.{Lookup, or_zero}
use Rattle.slopes.specs.Normals.{squares}
use Rattle.floats.proofs.Sizes.{Small, Held, true_is, le_of, small_wider, mul_small, sub_small, small_finite}
use Rattle.slopes.proofs.LengthLaws.{length_root}
use Rattle.slopes.proofs.Reach.{vertex_within}
use Rattle.surfaces.specs.declared.Arrow.{Arrow}
use Rattle.corners.specs.Corners.{every, farthest, vertex_ok}
use Rattle.surfaces.specs.Areas.{arrow_of, cross_of, area_between}

-- ---- a vertex of an accepted table passes

-- at an accepted voxel size, and between finite distances, the test of 10 lets the vertex pass
pub made_vertex_ok :
    (size : Float)
    → positive_to thousand size ≡ true
    → (k1 : ℕ) (d1 : Float) (k2 : ℕ) (d2 : Float)
    → is_finite d1 ≡ true
    → vertex_ok (vertex_of size k1 d1 k2 d2) ≡ true
made_vertex_ok size s k1 d1 k2 d2 f =
    let w = vertex_within size s k1 d1 k2 d2 f in
    and_eq w.0 (and_eq w.1 w.2)

-- so every vertex of a mesh passes, and area and box never refuse it with 10 (finite distances: stored_finite of vertices)
pub mesh_ok :
    (size : Float)
    → positive_to thousand size ≡ true
    → (look : Lookup)
    → ((k : ℕ) → is_finite (or_zero (look k)) ≡ true)
    → (ks ls : List ℕ)
    → every vertex_ok (vertices_of look size ks ls) ≡ true
unfolding every vertices_of vertex_at
mesh_ok size s look f [] ls = refl
mesh_ok size s look f (k ∷ ks) [] = refl
mesh_ok size s look f (k ∷ ks) (l ∷ ls) =
    and_eq (made_vertex_ok size s k (or_zero (look k)) l (or_zero (look l)) (f k)) (mesh_ok size s look f ks ls)

-- ---- sizes on the way to an area

-- a vertex that passes is small
small_of : (x : Float) → le (size_of x) farthest ≡ true → Small 100000000 x
unfolding le lt eq of_bits
small_of nan h = absurd (false≢true h)
small_of (inf s) h = absurd (false≢true h)
small_of (fin s m e) h = let g = le_of (m * up e * 1) (100000000 * down e) (true_is _ h) in at_one (m * up e) (100000000 * down e) g
  where
    at_one : (a b : ℕ) → a * 1 ≤ b → a ≤ b
    at_one a b g = omega arith

-- an arrow between two such, and a part of a cross product, each below a power of two
arrow_small : (x y : Float) → within farthest x ≡ true → within farthest y ≡ true → Small (2 ^ 28) (sub binary32 x y)
arrow_small x y p q =
    small_wider (100000000 + 100000000) (2 ^ 28) (sub binary32 x y)
    (sub_small 100000000 100000000 x y (record { q = 1562500; j = 7; is = refl; digits = lit< tt; places = lit≤ tt })
    (small_of x (sym (within_size farthest x) ∙ p)) (small_of y (sym (within_size farthest y) ∙ q)))
    (lit≤ tt)

cross_finite :
    (a b c d : Float)
    → Small (2 ^ 28) a
    → Small (2 ^ 28) b
    → Small (2 ^ 28) c
    → Small (2 ^ 28) d
    → is_finite (sub binary32 (mul binary32 a b) (mul binary32 c d)) ≡ true
cross_finite a b c d p q r s =
    let h : Held (2 ^ 28 * 2 ^ 28) = record { q = 1; j = 56; is = refl; digits = lit< tt; places = lit≤ tt } in
    small_finite (2 ^ 28 * 2 ^ 28 + 2 ^ 28 * 2 ^ 28) (sub binary32 (mul binary32 a b) (mul binary32 c d))
    (sub_small (2 ^ 28 * 2 ^ 28) (2 ^ 28 * 2 ^ 28) (mul binary32 a b) (mul binary32 c d)
    (record { q = 1; j = 57; is = refl; digits = lit< tt; places = lit≤ tt })
    (mul_small (2 ^ 28) (2 ^ 28) a b h p q) (mul_small (2 ^ 28) (2 ^ 28) c d h r s))

-- ---- an area

pub record Passed (v : Vertex) : Type 0 where
  pub x : within farthest v.x.0 ≡ true
  pub y : within farthest v.y.0 ≡ true
  pub z : within farthest v.z.0 ≡ true

pub passed : (v : Vertex) → vertex_ok v ≡ true → Passed v
passed v h =
    let s = and_second (within farthest v.x.0) _ h in
    record {
      x = and_first _ _ h;
      y = and_first _ _ s;
      z = and_second (within farthest v.y.0) _ s;
    }

module _ (v0 v1 v2 : Vertex) (p0 : Passed v0) (p1 : Passed v1) (p2 : Passed v2) where
  abbrev cross : Arrow
  cross = cross_of (arrow_of v0 v1) (arrow_of v0 v2)

  -- the area of a triangle of vertices that pass is half the root, correctly rounded: the root is never refused
  pub area_root : area_between v0 v1 v2 ≡ mul binary32 half (root_of (squares cross.x cross.y cross.z))
  unfolding area_between arrow_of cross_of
  area_root =
      let ex = arrow_small v1.x.0 v0.x.0 p1.x p0.x in
      let ey = arrow_small v1.y.0 v0.y.0 p1.y p0.y in
      let ez = arrow_small v1.z.0 v0.z.0 p1.z p0.z in
      let fx = arrow_small v2.x.0 v0.x.0 p2.x p0.x in
      let fy = arrow_small v2.y.0 v0.y.0 p2.y p0.y in
      let fz = arrow_small v2.z.0 v0.z.0 p2.z p0.z in
      ap (mul binary32 half)
      (length_root cross.x cross.y cross.z (cross_finite _ _ _ _ ey fz ez fy) (cross_finite _ _ _ _ ez fx ex fz) (cross_finite _ _ _ _ ex fy ey fx))
