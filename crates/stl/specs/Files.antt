-- A binary STL file: 80 bytes, the count of triangles, and then 50 bytes for each (document 02, No. 1).
use Rattle.std.specs.Prelude.{ℕ, zero, suc, ◌+◌, ◌*◌, Bool, not, ◌||◌, List, [], ◌∷◌, ◌++◌, eqb, ltb, length}
use Rattle.std.specs.Float.{binary32}
use Rattle.std.specs.Float.Ieee.{to_bits}
use Rattle.lists.specs.Lists.{joined}
use Rattle.lists.specs.Threes.{Three, three}
use Rattle.floats.specs.Floats.{f32}
use Rattle.slopes.specs.declared.Vertex.{Vertex}
use Rattle.corners.specs.Corners.{every, vertex, vertex_ok}
use Rattle.words.specs.Words.{zeros, bytes_of, word_from}

-- a triangle by its three corners
abbrev pub Facet : Type 0
Facet = Three Vertex

-- ---- the bytes of a file

-- a vertex is three floats
abbrev pub vertex_bytes : Vertex → List ℕ
vertex_bytes v = bytes_of (to_bits binary32 v.x.0) ++ (bytes_of (to_bits binary32 v.y.0) ++ bytes_of (to_bits binary32 v.z.0))

-- a triangle is 12 zeros for its normal, nine floats, and two zeros for its attribute count
unfoldable pub facet_bytes : Facet → List ℕ
facet_bytes t = zeros 12 ++ (vertex_bytes t.a ++ (vertex_bytes t.b ++ (vertex_bytes t.c ++ zeros 2)))

-- a file is 80 zeros, the count of triangles, and each triangle in turn
unfoldable pub file_of : List Facet → List ℕ
unfolding facet_bytes
file_of ts = zeros 80 ++ (bytes_of (length ts) ++ joined facet_bytes ts)

-- ---- what a file holds

-- the vertex of the twelve bytes from a place on
abbrev pub vertex_from : List ℕ → ℕ → Vertex
vertex_from bs at = vertex (f32 (word_from bs at)) (f32 (word_from bs (at + 4))) (f32 (word_from bs (at + 8)))

-- the triangle of the fifty bytes from a place on; its normal and its attribute count are not looked at
unfoldable pub facet_from : List ℕ → ℕ → Facet
facet_from bs at = three (vertex_from bs (at + 12)) (vertex_from bs (at + 24)) (vertex_from bs (at + 36))

-- so many triangles from a place on
unfoldable pub facets_from : ℕ → List ℕ → ℕ → List Facet
unfolding facet_from
facets_from zero bs at = []
facets_from (suc n) bs at = facet_from bs at ∷ facets_from n bs (at + 50)

-- the count that a file states
abbrev pub stated_in : List ℕ → ℕ
stated_in file = word_from file 80

-- its triangles; its first 80 bytes are not looked at
abbrev pub facets_in : List ℕ → List Facet
facets_in file = facets_from (stated_in file) file 84

-- corner j of triangle i is vertex 3i + j
abbrev pub corners_of : List Facet → List Vertex
corners_of ts = joined (λ (t : Facet). t.a ∷ t.b ∷ t.c ∷ []) ts

-- ---- when a file is turned away

-- it is under 84 bytes, or not 84 + 50n long for its count n
abbrev pub length_bad : List ℕ → Bool
length_bad file = ltb (length file) 84 || not (eqb (length file) (84 + 50 * stated_in file))

-- or it has a vertex outside document 01's range
abbrev pub corners_bad : List ℕ → Bool
corners_bad file = not (every vertex_ok (corners_of (facets_in file)))
