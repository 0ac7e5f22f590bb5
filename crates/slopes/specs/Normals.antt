-- Normals: `compute_normal` at a cell, over all stored neighbours in their order, whatever their weights.
use Rattle.std.specs.Prelude.{ℕ, ◌+◌, cond, List, [], ◌∷◌, map, eqb, pos, Float, Ok, Err, Some, None, Option, Result}
use Rattle.std.specs.Float.{binary32}
use Rattle.std.specs.Float.Ieee.{add, sub, mul, div, lt, of_int}
use Rattle.floats.specs.Floats.{zero32}
use Rattle.ids.specs.Key.{x_of, y_of, z_of}
use Rattle.neighbors.specs.Neighbors.{neighbours}
use Rattle.root.specs.Root.{root_answer}
use Rattle.slopes.specs.declared.Normal.{Normal}
use Rattle.slopes.specs.declared.Slopes.{Slopes}
use Rattle.slopes.specs.Stored.{Lookup}
use Rattle.slopes.specs.Vertices.{tiny}
use Rattle.refusals.specs.declared.Refusal.{Refusal}

abbrev pub normal : Float → Float → Float → Normal
normal x y z = record { x = x; y = y; z = z }

-- none: three +0
abbrev pub no_normal : Normal
no_normal = normal zero32 zero32 zero32

-- what has a root by its root; what has none stays
unfoldable pub rooted_or : Float → Result Float Refusal → Float
rooted_or x (Ok r) = r
rooted_or x (Err why) = x

-- x² + y² + z²
abbrev pub squares : Float → Float → Float → Float
squares x y z = add binary32 (add binary32 (mul binary32 x x) (mul binary32 y y)) (mul binary32 z z)

-- the length of x, y, z
unfoldable pub length_of : Float → Float → Float → Float
unfolding rooted_or
length_of x y z = rooted_or (squares x y z) (root_answer (squares x y z))

-- divided by the length; none if that is not above 1e-6
unfoldable pub direction_of : Float → Float → Float → Normal
unfolding length_of
direction_of x y z =
    let l = length_of x y z in
    cond (lt tiny l) (normal (div binary32 x l) (div binary32 y l) (div binary32 z l)) no_normal

-- from one coordinate to another, in metres
abbrev pub step_of : Float → ℕ → ℕ → Float
step_of size from to = mul binary32 (sub binary32 (of_int binary32 (pos to)) (of_int binary32 (pos from))) size

-- sums along the axes over no neighbour
abbrev pub no_slopes : Slopes
no_slopes = record { x = zero32; y = zero32; z = zero32; count = 0 }

-- one neighbour more, where it is stored: its distance less the cell's, times the step to it
unfoldable pub slopes_with : Float → ℕ → Float → Slopes → ℕ → Option Float → Slopes
slopes_with size key d sum k (Some dn) =
    let dd = sub binary32 dn d in
    record {
      x = add binary32 sum.x (mul binary32 dd (step_of size (x_of key) (x_of k)));
      y = add binary32 sum.y (mul binary32 dd (step_of size (y_of key) (y_of k)));
      z = add binary32 sum.z (mul binary32 dd (step_of size (z_of key) (z_of k)));
      count = sum.count + 1;
    }
slopes_with size key d sum k None = sum

-- some neighbours more, in order
unfoldable pub slopes_from : Lookup → Float → ℕ → Float → Slopes → List ℕ → Slopes
unfolding slopes_with
slopes_from look size key d sum [] = sum
slopes_from look size key d sum (k ∷ ks) = slopes_from look size key d (slopes_with size key d sum k (look k)) ks

-- the direction of the mean; none over no neighbour
unfoldable pub mean_of : Slopes → Normal
unfolding direction_of
mean_of sum =
    let n = of_int binary32 (pos sum.count) in
    cond (eqb sum.count 0) no_normal (direction_of (div binary32 sum.x n) (div binary32 sum.y n) (div binary32 sum.z n))

-- the normal at a cell by what is stored of it; none at a cell that is not stored
unfoldable pub normal_by : Lookup → Float → ℕ → Option Float → Normal
unfolding slopes_from mean_of
normal_by look size key (Some d) = mean_of (slopes_from look size key d no_slopes (neighbours key))
normal_by look size key None = no_normal

-- the normal at a cell
abbrev pub normal_at : Lookup → Float → ℕ → Normal
normal_at look size key = normal_by look size key (look key)

-- the normals of edges, each at the edge's first cell
abbrev pub normals_of : Lookup → Float → List ℕ → List Normal
normals_of look size firsts = map (λ (k : ℕ). normal_at look size k) firsts

-- their parts
abbrev pub parts_x : List Normal → List Float
parts_x ns = map (λ (n : Normal). n.x) ns

abbrev pub parts_y : List Normal → List Float
parts_y ns = map (λ (n : Normal). n.y) ns

abbrev pub parts_z : List Normal → List Float
parts_z ns = map (λ (n : Normal). n.z) ns
