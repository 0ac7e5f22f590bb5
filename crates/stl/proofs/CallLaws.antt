-- What a caller of both calls has: a mesh that was written, read, given room, gives its corners again bit for bit.
-- Assumes nothing.
use Rattle.std.specs.Prelude.{Ok}
use Prim.Native.Nat.{ℕ, zero, suc, ◌+◌, ◌*◌, ◌^◌, ◌<◌, ◌≤◌, zero-le}
use native.Mathlib.Omega.{arith}
use mathlib.Core.Path.{◌≡◌, refl, sym, ap, ◌∙◌}
use mathlib.Core.Bool.{true}
use mathlib.Core.List.{List, [], ◌∷◌}
use borrow.Author.Tests.{le-leb, eq-eqb}
use lib.Dec.{T}
use lib.ListN.{length, get_or, take}
use lib.Ieee.{Float, fits, binary32}
use lib.Ieee.Bits.{of_bits-fits}
use Rattle.lists.specs.Beside.{beside_by}
use Rattle.lists.specs.Lists.{joined, All}
use Rattle.lists.specs.Listing.{held_for}
use Rattle.lists.proofs.Bools.{and_eq}
use Rattle.lists.proofs.PaddingLaws.{padded_front}
use Rattle.floats.specs.Floats.{zero32}
use Rattle.slopes.specs.declared.Vertex.{Vertex}
use Rattle.corners.specs.Corners.{every, vertex, vertex_ok, vertices_in, Triangle, triangles_in}
use Rattle.surfaces.specs.Areas.{numbered}
use Rattle.stl.specs.Files.{Facet, file_of, stated_in, facets_in, corners_of}
use Rattle.stl.specs.Calls.{facets_of, facets_lent, export_answer, import_answer}
use Rattle.stl.proofs.WritingLaws.{numbered_ok}
use Rattle.stl.proofs.FileLaws.{BinaryVertex, BinaryFacet, file_length, count_back, file_back}
use Rattle.stl.proofs.AnswerLaws.{facets_length, export_counted, length_right}

-- a number of binary32, or a NaN, as every f32 is
abbrev pub Binary : Float → Type 0
Binary x = T (fits binary32 x)

-- ---- every corner

module _ {A : Type 0} (P : A → Type 0) where
  taken_all : (n : ℕ) (l : List A) → All P l → All P (take n l)
  unfolding All
  taken_all zero l h = tt
  taken_all (suc n) [] h = tt
  taken_all (suc n) (x ∷ xs) h = (h.0, taken_all n xs h.1)

  all_at : (l : List A) (d : A) (i : ℕ) → P d → All P l → P (get_or l i d)
  unfolding All
  all_at [] d i p h = p
  all_at (x ∷ xs) d zero p h = h.0
  all_at (x ∷ xs) d (suc i) p h = all_at xs d i p h.1

beside_all : (xs ys zs : List Float) → All Binary xs → All Binary ys → All Binary zs → All BinaryVertex (beside_by vertex xs ys zs)
unfolding All beside_by
beside_all [] ys zs p q r = tt
beside_all (x ∷ xs) [] zs p q r = tt
beside_all (x ∷ xs) (y ∷ ys) [] p q r = tt
beside_all (x ∷ xs) (y ∷ ys) (z ∷ zs) p q r = ((p.0, q.0, r.0), beside_all xs ys zs p.1 q.1 r.1)

facets_all : (vs : List Vertex) (ts : List Triangle) → ((k : ℕ) → BinaryVertex (numbered vs k)) → All BinaryFacet (facets_of vs ts)
unfolding All
facets_all vs [] f = tt
facets_all vs (t ∷ ts) f = ((f t.first, f t.second, f t.third), facets_all vs ts f)

corners_pass : (vs : List Vertex) (ts : List Triangle) → every vertex_ok vs ≡ true → every vertex_ok (corners_of (facets_of vs ts)) ≡ true
unfolding every joined
corners_pass vs [] h = refl
corners_pass vs (t ∷ ts) h =
    and_eq (numbered_ok vs t.first h) (and_eq (numbered_ok vs t.second h) (and_eq (numbered_ok vs t.third h) (corners_pass vs ts h)))

-- ---- a mesh that was written

module _ (xs ys zs : List Float) (n : ℕ) (is js ks : List ℕ) (m room k : ℕ) (e : export_answer xs ys zs n is js ks m room ≡ Ok k) where
  abbrev fs : List Facet
  fs = facets_lent xs ys zs n is js ks m

  -- it is 84 + 50 bytes for each triangle, and as many triangles as were lent, those without area too
  pub written_length : (k ≡ 84 + 50 * m) × (length (file_of fs) ≡ 84 + 50 * m) × (length fs ≡ m)
  written_length =
      let w = export_counted xs ys zs n is js ks m room k e in
      let long = facets_length xs ys zs n is js ks m w.0.triangles in
      (w.1, file_length fs ∙ ap (λ (x : ℕ). 84 + 50 * x) long, long)

  -- and stands in front of the lent list
  pub written_front : take k (held_for 0 (export_answer xs ys zs n is js ks m room) room (file_of fs)) ≡ file_of fs
  unfolding held_for
  written_front =
      let l = written_length in
      let same : k ≡ length (file_of fs) = l.0 ∙ sym l.1 in
      rw (e, same) (padded_front 0 room (file_of fs))

  pub few : length fs < 2 ^ 32
  few = let w = export_counted xs ys zs n is js ks m room k e in rw written_length.2 (omega (arith, w.0.few))

  module _ (bx : All Binary xs) (by : All Binary ys) (bz : All Binary zs) where
    pub binary : All BinaryFacet fs
    binary =
        let zero-fits : T (fits binary32 zero32) = of_bits-fits binary32 0 in
        let at : (k : ℕ) → BinaryVertex (numbered (vertices_in xs ys zs n) k) =
        λ k. all_at BinaryVertex (vertices_in xs ys zs n) (vertex zero32 zero32 zero32) k (zero-fits, zero-fits, zero-fits)
        (taken_all BinaryVertex n (beside_by vertex xs ys zs) (beside_all xs ys zs bx by bz)) in
        facets_all (vertices_in xs ys zs n) (triangles_in is js ks m) at

    -- Read, it holds the corners bit for bit, and every triangle.
    pub corners_back : facets_in (file_of fs) ≡ fs
    corners_back = file_back fs few binary

    -- Given room, it is not turned away.
    pub taken_back : (a : ℕ) → 3 * m ≤ a → a ≤ 1048576 → import_answer (file_of fs) a a a ≡ Ok (3 * m)
    unfolding import_answer
    taken_back a h g =
        let w = export_counted xs ys zs n is js ks m room k e in
        let l = written_length in
        let stated : stated_in (file_of fs) ≡ m = count_back fs few ∙ l.2 in
        let right : length (file_of fs) ≡ 84 + 50 * stated_in (file_of fs) = l.1 ∙ ap (λ (x : ℕ). 84 + 50 * x) (sym stated) in
        rw (
          le-leb (length (file_of fs)) 52428884 (omega (arith, l.1, w.0.few)),
          eq-eqb a a refl,
          le-leb a 1048576 g,
          le-leb 0 a zero-le,
          length_right (file_of fs) right,
          corners_back,
          corners_pass (vertices_in xs ys zs n) (triangles_in is js ks m) w.0.in_range,
          stated,
          le-leb (3 * m) a h,
        )
