-- The gradient at a cell: the mean over its stored neighbours of the distance's change along each axis, made as long as 1.
use Rattle.std.specs.Prelude.{ℕ, ◌+◌, ◌-◌, cond, List, [], ◌∷◌, eqb, leb, pos, Float, Ok, Err, Some, None, Result, Option}
use Rattle.std.specs.Float.{binary32}
use Rattle.std.specs.Float.Ieee.{add, sub, mul, div, neg, lt, of_int}
use Rattle.floats.specs.Floats.{f32, zero32}
use Rattle.ids.specs.Key.{x_of, y_of, z_of}
use Rattle.neighbors.specs.Neighbors.{neighbours}
use Rattle.refusals.specs.Refusals.{number_of, absent_number}
use Rattle.root.specs.Root.{root_answer}
use Rattle.marching.specs.March.{MarchedRow, distance_of}
use Rattle.marched.specs.Marched.{MarchedTable, marched_rows, key_check, once_passed}
use Rattle.esdf_questions.specs.declared.Slopes.{Slopes}
use Rattle.refusals.specs.declared.Refusal.{Refusal}

-- 1e-6
abbrev pub tiny : Float
tiny = f32 0x3586_37BD

-- a whole number as a float
abbrev pub whole : ℕ → Float
whole n = of_int binary32 (pos n)

-- how far it is from one coordinate to another, with its sign
unfoldable pub step_of : ℕ → ℕ → Float
step_of from to = cond (leb from to) (whole (to - from)) (neg (whole (from - to)))

-- one more neighbour's part in a sum: the change of distance dd, times the step along the axis
abbrev pub climbed : Float → Float → ℕ → ℕ → Float
climbed sum dd from to = add binary32 sum (mul binary32 dd (step_of from to))

-- sums along the axes over no neighbour
abbrev pub no_slopes : Slopes
no_slopes = record { x = zero32; y = zero32; z = zero32; count = 0 }

-- one neighbour n of the cell k at distance d more, where n is stored
unfoldable pub slopes_with : ℕ → Float → Slopes → ℕ → Option Float → Slopes
slopes_with k d sum n None = sum
slopes_with k d sum n (Some e) =
    let dd = sub binary32 e d in
    record {
      x = climbed sum.x dd (x_of k) (x_of n);
      y = climbed sum.y dd (y_of k) (y_of n);
      z = climbed sum.z dd (z_of k) (z_of n);
      count = sum.count + 1;
    }

-- some neighbours more, in order
unfoldable pub slopes_from : List MarchedRow → ℕ → Float → Slopes → List ℕ → Slopes
slopes_from rs k d sum [] = sum
slopes_from rs k d sum (n ∷ ns) = slopes_from rs k d (slopes_with k d sum n (distance_of n rs)) ns

-- x² + y² + z²
abbrev pub squares : Float → Float → Float → Float
squares x y z = add binary32 (add binary32 (mul binary32 x x) (mul binary32 y y)) (mul binary32 z z)

-- divided by a length; none if that is not above 1e-6, or no number
unfoldable pub unit_by : Float → Float → Float → Result Float Refusal → Option (Float × Float × Float)
unit_by x y z (Ok l) = cond (lt tiny l) (Some (div binary32 x l, div binary32 y l, div binary32 z l)) None
unit_by x y z (Err why) = None

-- the direction of x, y, z
abbrev pub direction_of : Float → Float → Float → Option (Float × Float × Float)
direction_of x y z = unit_by x y z (root_answer (squares x y z))

-- the direction of the mean; none over no neighbour
unfoldable pub mean_of : Slopes → Option (Float × Float × Float)
mean_of sum =
    let n = whole sum.count in
    cond (eqb sum.count 0) None (direction_of (div binary32 sum.x n) (div binary32 sum.y n) (div binary32 sum.z n))

-- none where the cell is not stored
unfoldable pub gradient_at : List MarchedRow → ℕ → Option Float → Option (Float × Float × Float)
gradient_at rs k None = None
gradient_at rs k (Some d) = mean_of (slopes_from rs k d no_slopes (neighbours k))

abbrev pub get_gradient : MarchedTable → ℕ → Result (Option (Float × Float × Float)) Refusal
get_gradient t k = once_passed (key_check t k) (gradient_at (marched_rows t) k (distance_of k (marched_rows t)))

-- the number of an answer: 0 where there is one, Absent's, or document 01's of the refusal
abbrev pub gradient_number : Result (Option (Float × Float × Float)) Refusal → ℕ
gradient_number (Ok (Some (x, y, z))) = 0
gradient_number (Ok None) = absent_number
gradient_number (Err why) = number_of why
