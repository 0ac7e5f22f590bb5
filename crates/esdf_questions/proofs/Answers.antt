-- The gradient's parts. Assumes nothing.
use Rattle.std.specs.Prelude.{Some, None, Ok}
use mathlib.Core.Path.{◌≡◌}
use Prim.Native.Nat.{ℕ, ◌+◌, ◌-◌, ◌<◌, ◌≤◌}
use borrow.Author.Tests.{le-leb, lt-leb, eq-eqb, ne_eqb}
use lib.Ieee.{Float, binary32, add, sub, mul, div, neg}
use Rattle.ids.specs.Key.{x_of, y_of, z_of}
use Rattle.ids.specs.declared.Coords.{Coords}
use Rattle.marching.specs.March.{distance_of}
use Rattle.marched.specs.Marched.{MarchedTable, marched_rows, key_check, once_passed}
use Rattle.esdf_questions.specs.declared.Slopes.{Slopes}
use Rattle.esdf_questions.specs.Lookups.{get_distance}
use Rattle.esdf_questions.specs.Gradient.{whole, step_of, slopes_with, direction_of, mean_of}

pub step_up : (from to : ℕ) → from ≤ to → whole (to - from) ≡ step_of from to
unfolding step_of
step_up from to h = rw (le-leb from to h)

pub step_down : (from to : ℕ) → to < from → neg (whole (from - to)) ≡ step_of from to
unfolding step_of
step_down from to h = rw (lt-leb from to h)

pub slopes_of :
    (k : ℕ) (d : Float) (sum : Slopes) (n : ℕ) (e : Float) (a b : Coords) (x y z : Float)
    → a ≡ record { x = x_of k; y = y_of k; z = z_of k }
    → b ≡ record { x = x_of n; y = y_of n; z = z_of n }
    → x ≡ step_of a.x b.x
    → y ≡ step_of a.y b.y
    → z ≡ step_of a.z b.z
    → ◌≡◌ {A = Slopes}
    (record {
      x = add binary32 sum.x (mul binary32 (sub binary32 e d) x);
      y = add binary32 sum.y (mul binary32 (sub binary32 e d) y);
      z = add binary32 sum.z (mul binary32 (sub binary32 e d) z);
      count = sum.count + 1;
    })
    (slopes_with k d sum n (Some e))
unfolding slopes_with
slopes_of k d sum n e a b x y z i j p q r = rw (p, q, r, i, j)

pub mean_none : (sum : Slopes) → sum.count ≡ 0 → None ≡ mean_of sum
unfolding mean_of
mean_none sum h = rw (eq-eqb sum.count 0 h)

pub mean_some :
    (sum : Slopes)
    → (sum.count ≡ 0 → ⊥)
    → direction_of (div binary32 sum.x (whole sum.count)) (div binary32 sum.y (whole sum.count))
    (div binary32 sum.z (whole sum.count)) ≡ mean_of sum
unfolding mean_of
mean_some sum h = rw (ne_eqb sum.count 0 h)

-- a stored cell's distance, where the tests pass
pub distance_of_lem :
    (t : MarchedTable) (k : ℕ) {d : Float}
    → key_check t k ≡ Ok tt
    → distance_of k (marched_rows t) ≡ Some d
    → get_distance t k ≡ Ok (Some d)
unfolding once_passed
distance_of_lem t k e f = rw (e, f)
