-- A file's corners, triangle by triangle: what is left says what all say.
-- Assumes nothing.
use Prim.Native.Nat.{ℕ, suc, ◌+◌, ◌-◌, ◌*◌, ◌<◌, ◌≤◌}
use native.Mathlib.Nat.{sub-zero}
use native.Mathlib.Omega.{arith}
use mathlib.Core.Path.{◌≡◌, refl, sym, ◌∙◌}
use mathlib.Core.Bool.{Bool, true, false, ◌&&◌, false≢true}
use mathlib.Core.List.{List, [], ◌∷◌, map}
use borrow.Author.Tests.{le-leb}
use lib.ListN.{length}
use lib.Seq.{sets}
use lib.Ieee.{Float}
use Rattle.lists.specs.Lists.{joined}
use Rattle.floats.specs.Floats.{f32}
use Rattle.slopes.specs.declared.Vertex.{Vertex}
use Rattle.corners.specs.Corners.{every, vertex_ok}
use Rattle.stl.specs.Files.{Facet, vertex_from, facet_from, facets_from, corners_of}
use Rattle.stl.specs.Steps.{put_three, ColumnRead}

-- where the triangle at place i stands, and the one after it
abbrev pub facet_place : ℕ → ℕ
facet_place i = 84 + 50 * i

-- the triangles from place i on
abbrev pub left_of : List ℕ → ℕ → ℕ → List Facet
left_of file count i = facets_from (count - i) file (facet_place i)

module _ (file : List ℕ) (count i : ℕ) where
  pub left_next : i < count → left_of file count i ≡ facet_from file (facet_place i) ∷ left_of file count (i + 1)
  unfolding facets_from
  left_next h =
      let left : count - i ≡ suc (count - (i + 1)) = omega arith in
      let on : 84 + 50 * i + 50 ≡ 84 + 50 * (i + 1) = omega arith in
      rw (left, on)

  pub left_none : count ≤ i → left_of file count i ≡ []
  unfolding facets_from
  left_none h = let left : count - i ≡ 0 = omega arith in rw left

  -- ---- their test

  abbrev ok : ℕ → Bool
  ok at = vertex_ok (vertex_from file at)

  corners_next : i < count
      → every vertex_ok (corners_of (left_of file count i))
      ≡ ok (facet_place i + 12) && (ok (facet_place i + 24) && (ok (facet_place i + 36) && every vertex_ok (corners_of (left_of file count (i + 1)))))
  unfolding every joined facet_from
  corners_next h = rw (left_next h)

  pass : (p q r s : Bool) → p && (q && r) ≡ true → p && (q && (r && s)) ≡ s
  pass true true r s e = rw e
  pass true false r s e = absurd (false≢true e)
  pass false q r s e = absurd (false≢true e)

  fail : (p q r s : Bool) → p && (q && r) ≡ false → p && (q && (r && s)) ≡ false
  fail true true r s e = rw e
  fail true false r s e = refl
  fail false q r s e = refl

  module _ (h : i < count) (t : Bool) (e : t ≡ ok (facet_place i + 12) && (ok (facet_place i + 24) && ok (facet_place i + 36))) where
    pub facet_passes : t ≡ true → every vertex_ok (corners_of (left_of file count i)) ≡ every vertex_ok (corners_of (left_of file count (i + 1)))
    facet_passes y = corners_next h ∙ pass (ok (facet_place i + 12)) (ok (facet_place i + 24)) (ok (facet_place i + 36)) _ (sym e ∙ y)

    pub facet_fails : t ≡ false → every vertex_ok (corners_of (left_of file count i)) ≡ false
    facet_fails n = corners_next h ∙ fail (ok (facet_place i + 12)) (ok (facet_place i + 24)) (ok (facet_place i + 36)) _ (sym e ∙ n)

  pub all_passed : count ≤ i → every vertex_ok (corners_of (left_of file count i)) ≡ true
  unfolding every joined
  all_passed h = rw (left_none h)

  -- ---- their coordinates

  -- one coordinate of every corner, from where it goes on, in a list with room for all
  pub column_more : (g : Vertex → Float) (l l' : List Float) (p q r : ℕ)
      → i < count
      → 3 * count ≤ length l
      → f32 p ≡ g (vertex_from file (facet_place i + 12))
      → f32 q ≡ g (vertex_from file (facet_place i + 24))
      → f32 r ≡ g (vertex_from file (facet_place i + 36))
      → l' ≡ put_three l (3 * i) p q r
      → sets l (3 * i) (map g (corners_of (left_of file count i))) ≡ sets l' (3 * (i + 1)) (map g (corners_of (left_of file count (i + 1))))
  unfolding joined facet_from
  column_more g l l' p q r h room ep eq er e =
      let on : 3 * (i + 1) ≡ suc (suc (suc (3 * i))) = omega arith in
      let fits : 3 * i + 3 ≤ length l = omega arith in
      rw (left_next h, on, e, le-leb (3 * i + 3) (length l) fits, ep, eq, er)

  pub column_done : (g : Vertex → Float) (l : List Float) → count ≤ i → sets l (3 * i) (map g (corners_of (left_of file count i))) ≡ l
  unfolding joined
  column_done g l h = rw (left_none h)

-- one list while triangles are read: what is left to put, from where it goes on, says what all says, where there is room for all
pub record ColumnReading (file : List ℕ) (count i : ℕ) (g : Vertex → Float) (l l' : List Float) : Type 0 where
  pub long : length l' ≡ length l
  pub same : 3 * count ≤ length l → sets l 0 (map g (corners_of (facets_from count file 84))) ≡ sets l' (3 * i) (map g (corners_of (left_of file count i)))

pub begun : (file : List ℕ) (count : ℕ) (g : Vertex → Float) (l : List Float) → ColumnReading file count 0 g l l
begun file count g l = record { long = refl; same = λ h. rw (sub-zero count) }

module _ (file : List ℕ) (count i : ℕ) where
  pub more : (g : Vertex → Float) (l l' l'' : List Float) (p q r : ℕ)
      → i < count
      → ColumnReading file count i g l l'
      → f32 p ≡ g (vertex_from file (facet_place i + 12))
      → f32 q ≡ g (vertex_from file (facet_place i + 24))
      → f32 r ≡ g (vertex_from file (facet_place i + 36))
      → l'' ≡ put_three l' (3 * i) p q r
      → length l'' ≡ length l'
      → ColumnReading file count (i + 1) g l l''
  more g l l' l'' p q r h f ep eq er e long =
      record {
        long = long ∙ f.long;
        same = λ room. f.same room ∙ column_more file count i g l' l'' p q r h (rw f.long room) ep eq er e;
      }

  pub ended : count ≤ i → (g : Vertex → Float) (l l' : List Float)
      → ColumnReading file count i g l l'
      → ColumnRead true count l (map g (corners_of (facets_from count file 84))) l'
  ended h g l l' f = record { long = f.long; written = λ e room. sym (f.same room ∙ column_done file count i g l' h) }
