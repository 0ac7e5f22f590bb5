-- A file by its bytes: how long it is, and that reading it gives back what was written.
-- Assumes nothing.
use Prim.Native.Nat.{ℕ, zero, suc, ◌+◌, ◌*◌, ◌^◌, ◌<◌}
use native.Mathlib.Nat.{add_assoc}
use native.Mathlib.Omega.{arith}
use mathlib.Core.Path.{◌≡◌, refl, sym, ap, ◌∙◌}
use mathlib.Core.List.{List, [], ◌∷◌, ◌++◌, append_assoc, append-nil}
use lib.Dec.{T}
use lib.ListN.{length, drop, length-append}
use lib.Seq.{drop-drop}
use lib.Ieee.{Float, fits, binary32, to_bits}
use lib.Ieee.Bits.{of_bits-to_bits, to_bits-lt}
use Rattle.lists.specs.Lists.{joined, All}
use Rattle.lists.specs.Threes.{three}
use Rattle.floats.specs.Floats.{f32}
use Rattle.slopes.specs.declared.Vertex.{Vertex}
use Rattle.corners.specs.Corners.{vertex}
use Rattle.words.specs.Words.{bytes_of, word_from}
use Rattle.words.proofs.WordLaws.{word_back, word_on}
use Rattle.stl.specs.Files.{Facet, facet_bytes, file_of, vertex_from, facet_from, facets_from, stated_in, facets_in, corners_of}
use Rattle.stl.proofs.WritingLaws.{facet_length}

-- ---- how long

facets_bytes : (ts : List Facet) → length (joined facet_bytes ts) ≡ 50 * length ts
unfolding joined
facets_bytes [] = refl
facets_bytes (t ∷ ts) = length-append (facet_bytes t) (joined facet_bytes ts) ∙ omega (arith, facet_length t, facets_bytes ts)

-- a file is 84 bytes and 50 for each triangle
pub file_length : (ts : List Facet) → length (file_of ts) ≡ 84 + 50 * length ts
unfolding file_of
file_length ts = let h = facets_bytes ts in omega arith

-- three corners for each triangle
pub corners_length : (ts : List Facet) → length (corners_of ts) ≡ 3 * length ts
unfolding joined
corners_length [] = refl
corners_length (t ∷ ts) = let h = corners_length ts in omega arith

pub read_length : (n : ℕ) (bs : List ℕ) (at : ℕ) → length (facets_from n bs at) ≡ n
unfolding facets_from
read_length zero bs at = refl
read_length (suc n) bs at = ap suc (read_length n bs (at + 50))

-- ---- read back

-- coordinates are numbers of binary32 or a NaN, as every f32 is
abbrev pub BinaryVertex : Vertex → Type 0
BinaryVertex v = T (fits binary32 v.x.0) × T (fits binary32 v.y.0) × T (fits binary32 v.z.0)

abbrev pub BinaryFacet : Facet → Type 0
BinaryFacet t = BinaryVertex t.a × BinaryVertex t.b × BinaryVertex t.c

-- a float reads back from its four bytes
float_back : (x : Float) (rest : List ℕ) → T (fits binary32 x) → f32 (word_from (bytes_of (to_bits binary32 x) ++ rest) 0) ≡ x
float_back x rest h = ap f32 (word_back (to_bits binary32 x) rest (to_bits-lt binary32 x h)) ∙ of_bits-to_bits binary32 x h

vertex_is : (x y z : Float) (v : Vertex) → x ≡ v.x.0 → y ≡ v.y.0 → z ≡ v.z.0 → vertex x y z ≡ v
vertex_is x y z v p q r = rw (p, q, r)

facet_is : (a b c : Vertex) (t : Facet) → a ≡ t.a → b ≡ t.b → c ≡ t.c → three a b c ≡ t
facet_is a b c t p q r = rw (p, q, r)

-- a triangle reads back from its fifty bytes
facet_back : (t : Facet) (rest : List ℕ) → BinaryFacet t → facet_from (facet_bytes t ++ rest) 0 ≡ t
unfolding facet_from facet_bytes
facet_back t rest h = facet_is _ _ _ t (back t.a h.0) (back t.b h.1) (back t.c h.2)
  where
    back : (v : Vertex) → BinaryVertex v
        → vertex (f32 (word_from (bytes_of (to_bits binary32 v.x.0) ++ []) 0)) (f32 (word_from (bytes_of (to_bits binary32 v.y.0) ++ []) 0))
        (f32 (word_from (bytes_of (to_bits binary32 v.z.0) ++ []) 0))
        ≡ v
    back v f = vertex_is _ _ _ v (float_back v.x.0 [] f.0) (float_back v.y.0 [] f.1) (float_back v.z.0 [] f.2)

-- what stands further on stands in what is left
vertex_on : (bs : List ℕ) (k at : ℕ) → vertex_from bs (k + at) ≡ vertex_from (drop k bs) at
vertex_on bs k at =
    vertex_is _ _ _ (vertex_from (drop k bs) at) (ap f32 (word_on bs k at))
    (ap (λ (n : ℕ). f32 (word_from bs n)) (add_assoc k at 4) ∙ ap f32 (word_on bs k (at + 4)))
    (ap (λ (n : ℕ). f32 (word_from bs n)) (add_assoc k at 8) ∙ ap f32 (word_on bs k (at + 8)))

facet_on : (bs : List ℕ) (at : ℕ) → facet_from bs at ≡ facet_from (drop at bs) 0
unfolding facet_from
facet_on bs at = facet_is _ _ _ (facet_from (drop at bs) 0) (vertex_on bs at 12) (vertex_on bs at 24) (vertex_on bs at 36)

past : (t : Facet) (rest : List ℕ) → drop 50 (facet_bytes t ++ rest) ≡ rest
unfolding facet_bytes
past t rest = refl

file_body : (ts : List Facet) → drop 84 (file_of ts) ≡ joined facet_bytes ts ++ []
unfolding file_of
file_body ts = sym (append-nil (joined facet_bytes ts))

-- and so do triangles, one after the other
facets_back : (ts : List Facet) (bs : List ℕ) (at : ℕ) (rest : List ℕ)
    → All BinaryFacet ts
    → drop at bs ≡ joined facet_bytes ts ++ rest
    → facets_from (length ts) bs at ≡ ts
unfolding facets_from joined All
facets_back [] bs at rest h e = refl
facets_back (t ∷ ts) bs at rest h e =
    let stands : drop at bs ≡ facet_bytes t ++ (joined facet_bytes ts ++ rest) = e ∙ append_assoc (facet_bytes t) (joined facet_bytes ts) rest in
    let first : facet_from bs at ≡ t = facet_on bs at ∙ ap (λ (l : List ℕ). facet_from l 0) stands ∙ facet_back t (joined facet_bytes ts ++ rest) h.0 in
    let others : drop (at + 50) bs ≡ joined facet_bytes ts ++ rest = sym (drop-drop 50 at bs) ∙ ap (drop 50) stands ∙ past t (joined facet_bytes ts ++ rest) in
    rw (first, facets_back ts bs (at + 50) rest h.1 others)

-- Reading what was written gives the triangles bit for bit, -0 and subnormal numbers too.
module _ (ts : List Facet) (few : length ts < 2 ^ 32) where
  pub count_back : stated_in (file_of ts) ≡ length ts
  unfolding file_of
  count_back = word_back (length ts) [] few

  pub file_back : All BinaryFacet ts → facets_in (file_of ts) ≡ ts
  file_back h = ap (λ (n : ℕ). facets_from n (file_of ts) 84) count_back ∙ facets_back ts (file_of ts) 84 [] h (file_body ts)

-- Two lists of triangles with different corners never give one file.
pub file_tells : (ts us : List Facet) → length ts < 2 ^ 32 → length us < 2 ^ 32 → All BinaryFacet ts → All BinaryFacet us → file_of ts ≡ file_of us → ts ≡ us
file_tells ts us p q h g e = sym (file_back ts p h) ∙ ap facets_in e ∙ file_back us q g
