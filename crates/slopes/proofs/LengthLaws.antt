-- The root of a sum of squares of finite numbers is taken: squares are not below 0. So a length is the root, correctly rounded.
-- Assumes nothing.
use Prim.Native.Nat.{ℕ, ◌*◌, ◌<◌, zero-le}
use native.Mathlib.Nat.{zero-mul, mul-pos}
use mathlib.Core.Path.{◌≡◌, refl, subst}
use mathlib.Core.Bool.{true, false, false≢true}
use lib.Dec.{T, lit<}
use lib.Ieee.{Float, nan, inf, fin, binary32, up, down, size, odd, units, round, mul, add, le, of_bits}
use lib.Ieee.Bits.{is_true}
use lib.Ieee.Fits.{down_pos}
use lib.Ieee.Order.{round_mono}
use Rattle.floats.specs.Floats.{zero32, is_finite}
use Rattle.floats.proofs.Sums.{sum_at_least_0}
use Rattle.root.specs.Root.{root_of, root_answer}
use Rattle.slopes.specs.Normals.{rooted_or, squares, length_of}

zero_rounds : round binary32 false 0 1 ≡ zero32
unfolding round units odd size of_bits
zero_rounds = refl

round_at_least_0 : (a c : ℕ) → 0 < c → le zero32 (round binary32 false a c) ≡ true
round_at_least_0 a c h =
    is_true _ (subst (λ (z : Float). T (le z (round binary32 false a c))) zero_rounds (round_mono binary32 0 1 a c (lit< tt) h (rw (zero-mul c) zero-le)))

square_at_least_0 : (x : Float) → is_finite x ≡ true → le zero32 (mul binary32 x x) ≡ true
unfolding mul
square_at_least_0 nan h = absurd (false≢true h)
square_at_least_0 (inf s) h = absurd (false≢true h)
square_at_least_0 (fin true m e) h = round_at_least_0 (m * up e * (m * up e)) (down e * down e) (mul-pos (down_pos e) (down_pos e))
square_at_least_0 (fin false m e) h = round_at_least_0 (m * up e * (m * up e)) (down e * down e) (mul-pos (down_pos e) (down_pos e))

module _ (x y z : Float) (p : is_finite x ≡ true) (q : is_finite y ≡ true) (r : is_finite z ≡ true) where
  squares_at_least_0 : le zero32 (squares x y z) ≡ true
  squares_at_least_0 =
      sum_at_least_0 (add binary32 (mul binary32 x x) (mul binary32 y y)) (mul binary32 z z)
      (sum_at_least_0 (mul binary32 x x) (mul binary32 y y) (square_at_least_0 x p) (square_at_least_0 y q))
      (square_at_least_0 z r)

  pub length_root : length_of x y z ≡ root_of (squares x y z)
  unfolding length_of rooted_or root_answer
  length_root = rw squares_at_least_0
