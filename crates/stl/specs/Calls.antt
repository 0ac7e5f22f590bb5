-- The answers of the two calls, and what the lent lists then hold.
use Rattle.std.specs.Prelude.{ℕ, ◌+◌, ◌*◌, Bool, cond, ◌&&◌, List, map, leb, length, Float, Err, Result}
use Rattle.refusals.specs.declared.Refusal.TheVariants.{Lengths, BadVertex, BadLength}
use Rattle.lists.specs.Listing.{room_for}
use Rattle.lists.specs.Threes.{three}
use Rattle.slopes.specs.declared.Vertex.{Vertex}
use Rattle.corners.specs.Corners.{set_ok, every, vertex_ok, vertices_in, Triangle, triangle_ok, triangles_in}
use Rattle.surfaces.specs.Areas.{numbered}
use Rattle.stl.specs.Files.{Facet, stated_in, length_bad, corners_bad}
use Rattle.refusals.specs.declared.Refusal.{Refusal}

-- a list of bytes has at most 52,428,884 places
abbrev pub file_fits : ℕ → Bool
file_fits room = leb room 52428884

-- ---- written

-- the triangles of a mesh by their corners, those without area too
abbrev pub facets_of : List Vertex → List Triangle → List Facet
facets_of vs ts = map (λ (t : Triangle). three (numbered vs t.first) (numbered vs t.second) (numbered vs t.third)) ts

-- those of the first n vertices and the first m triangles of lent lists
abbrev pub facets_lent : List Float → List Float → List Float → ℕ → List ℕ → List ℕ → List ℕ → ℕ → List Facet
facets_lent xs ys zs n is js ks m = facets_of (vertices_in xs ys zs n) (triangles_in is js ks m)

-- refused with 2 for lengths, with 10 for a vertex out of range or a triangle that names no vertex, then with 6; else the file's length
unfoldable pub export_answer : List Float → List Float → List Float → ℕ → List ℕ → List ℕ → List ℕ → ℕ → ℕ → Result ℕ Refusal
unfolding every
export_answer xs ys zs n is js ks m room =
    cond (set_ok (length xs) (length ys) (length zs) n && (set_ok (length is) (length js) (length ks) m && file_fits room))
    (cond (every vertex_ok (vertices_in xs ys zs n) && every (triangle_ok n) (triangles_in is js ks m)) (room_for (84 + 50 * m) room) (Err BadVertex))
    (Err Lengths)

-- ---- read

-- refused with 2 for lengths, with 11 and 10 where the file is turned away, then with 6; else the number of vertices
unfoldable pub import_answer : List ℕ → ℕ → ℕ → ℕ → Result ℕ Refusal
unfolding every
import_answer file a b c =
    cond (file_fits (length file) && set_ok a b c 0)
    (cond (length_bad file) (Err BadLength) (cond (corners_bad file) (Err BadVertex) (room_for (3 * stated_in file) a)))
    (Err Lengths)
