-- Vertices: vertex i comes from edge i.
use Rattle.std.specs.Prelude.{ℕ, cond, List, [], ◌∷◌, map, Float}
use Rattle.std.specs.Float.{binary32}
use Rattle.std.specs.Float.Ieee.{add, sub, mul, div, neg, lt}
use Rattle.floats.specs.Floats.{f32, zero32, one32, size_of, clamp_of}
use Rattle.floats.specs.declared.Metres.{Metres}
use Rattle.ids.specs.Key.{x_of, y_of, z_of}
use Rattle.bcc_utils.specs.Metres.{metres_of}
use Rattle.slopes.specs.declared.Vertex.{Vertex}
use Rattle.slopes.specs.Stored.{Lookup, or_zero}

-- 1e-6
abbrev pub tiny : Float
tiny = f32 0x3586_37BD

-- 0.5
abbrev pub half : Float
half = f32 0x3F00_0000

-- t: with e = d2 - d1, -d1 / e if |e| is above 1e-6, else 0.5, clamped to 0..1
unfoldable pub part_of : Float → Float → Float
part_of d1 d2 =
    let e = sub binary32 d2 d1 in
    let t = cond (lt tiny (size_of e)) (div binary32 (neg d1) e) half in
    clamp_of t zero32 one32

-- p1 + t(p2 - p1), along an axis
abbrev pub place_of : Float → Metres → Metres → Metres
place_of t p1 p2 = record { 0 = add binary32 p1.0 (mul binary32 t (sub binary32 p2.0 p1.0)) }

-- the vertex between two cells with their distances
unfoldable pub vertex_of : Float → ℕ → Float → ℕ → Float → Vertex
unfolding part_of
vertex_of size k1 d1 k2 d2 =
    record {
      x = place_of (part_of d1 d2) (metres_of (x_of k1) size) (metres_of (x_of k2) size);
      y = place_of (part_of d1 d2) (metres_of (y_of k1) size) (metres_of (y_of k2) size);
      z = place_of (part_of d1 d2) (metres_of (z_of k1) size) (metres_of (z_of k2) size);
    }

-- the vertex of an edge
unfoldable pub vertex_at : Lookup → Float → ℕ → ℕ → Vertex
unfolding vertex_of or_zero
vertex_at look size k1 k2 = vertex_of size k1 (or_zero (look k1)) k2 (or_zero (look k2))

-- the vertices of edges whose two cells stand side by side in two lists
unfoldable pub vertices_of : Lookup → Float → List ℕ → List ℕ → List Vertex
unfolding vertex_at
vertices_of look size [] ls = []
vertices_of look size (k ∷ ks) [] = []
vertices_of look size (k ∷ ks) (l ∷ ls) = vertex_at look size k l ∷ vertices_of look size ks ls

-- their coordinates
abbrev pub xs_of : List Vertex → List Float
xs_of vs = map (λ (v : Vertex). v.x.0) vs

abbrev pub ys_of : List Vertex → List Float
ys_of vs = map (λ (v : Vertex). v.y.0) vs

abbrev pub zs_of : List Vertex → List Float
zs_of vs = map (λ (v : Vertex). v.z.0) vs
