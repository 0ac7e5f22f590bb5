-- A ray's signed distance is never a NaN: a cell's place is a number, so each difference is one; squares and their sum
-- are not below zero; so the root is a number, and a finite depth less it is one.
-- Where the sum of squares overflows, the distance is minus infinity, which is Far.
-- Assumes nothing.
use Rattle.std.specs.Prelude.{Ok, Err, None, Result}
use mathlib.Core.Path.{◌≡◌, refl, sym, subst, ◌∙◌, ap}
use mathlib.Core.Bool.{Bool, true, false, cond, not, ◌&&◌, ◌||◌, beq, true≢false, false≢true, or-true}
use Prim.Native.Nat.{ℕ, zero, suc, ◌+◌, ◌-◌, ◌*◌, ◌^◌, ◌<◌, zero-le}
use native.Mathlib.Nat.{zero-mul, mul-pos, zero-lt-suc, le_of_eq, le_trans}
use native.Mathlib.Omega.{arith}
use borrow.Author.Tests.{le-ltb, ne_eqb}
use lib.Dec.{T, ltb}
use lib.IntN.{ℤ}
use lib.Ieee.{Float, nan, inf, fin, binary32, up, down, neg, span, climb, size, odd, units, round, sum, add, sub, mul, lt, eq, le, is_nan, of_int, of_bits, of_fields, unlike}
use lib.Ieee.Bits.{is_true}
use lib.Ieee.Fits.{down_pos, round_is}
use lib.Ieee.Order.{round_mono, kept, drop}
use Rattle.bcc_utils.specs.Metres.{metres_of}
use Rattle.floats.specs.Floats.{zero32, one32, thousand, is_finite, between, beyond, positive_to}
use Rattle.floats.proofs.Order.{le_second, positive_finite}
use Rattle.floats.proofs.Sums.{sum_at_least_0}
use Rattle.floats.specs.declared.Metres.{Metres}
use Rattle.ids.specs.declared.Coords.{Coords}
use Rattle.ids.specs.Key.{x_of, y_of, z_of, on_lattice}
use Rattle.lists.proofs.Bools.{and_first, and_second}
use Rattle.refusals.specs.declared.Refusal.{Refusal}
use Rattle.root.specs.Root.{root_of, root_answer}
use Rattle.root.proofs.Answers.{taken}
use Rattle.root.proofs.Taken.{root_number}
use Rattle.table.specs.declared.Settings.{Settings}
use Rattle.table.specs.Table.{settings_ok}
use Rattle.measuring.specs.declared.Reading.TheVariants.{Ray}
use Rattle.measuring.specs.Readings.{reading_ok, apart, square, squares, ray_distance, admit_if, admitted}
use Rattle.table.proofs.SettingsLaws.{settings_known}

-- ---- what is rounded is a number

units_number : (s : Bool) (q k : ℕ) → is_nan (units binary32 s q k) ≡ false
unfolding is_nan units odd
units_number s q k = go (ltb (q * 2 ^ k) (2 ^ 277)) q
  where
    go : (b : Bool) (q : ℕ) → is_nan (cond b (odd 25 s q k 149) (inf s)) ≡ false
    go true zero = refl
    go true (suc q) = refl
    go false q = refl

round_number : (s : Bool) (a c : ℕ) → is_nan (round binary32 s a c) ≡ false
round_number s a c = ap is_nan (round_is binary32 s a c) ∙ units_number s (kept 24 (a * 2 ^ 149) c) (drop 24 (a * 2 ^ 149) c)

sum_number : (s : Bool) (a : ℕ) (t : Bool) (b c : ℕ) → is_nan (sum binary32 s a t b c) ≡ false
unfolding sum
sum_number s a t b c = go (beq s t) (ltb a b)
  where
    go : (u v : Bool) → is_nan (cond u (round binary32 s (a + b) c) (cond v (round binary32 t (b - a) c) (round binary32 (s && ltb b a) (a - b) c))) ≡ false
    go true v = round_number s (a + b) c
    go false true = round_number t (b - a) c
    go false false = round_number (s && ltb b a) (a - b) c

-- a difference of two numbers, one of them finite
sub_number : (x y : Float) → is_nan x ≡ false → is_nan y ≡ false → is_finite x || is_finite y ≡ true → is_nan (sub binary32 x y) ≡ false
unfolding is_nan sub add neg
sub_number nan y p q h = absurd (true≢false p)
sub_number (inf s) nan p q h = absurd (true≢false q)
sub_number (inf s) (inf t) p q h = absurd (false≢true h)
sub_number (inf s) (fin t n d) p q h = refl
sub_number (fin s m e) nan p q h = absurd (true≢false q)
sub_number (fin s m e) (inf t) p q h = refl
sub_number (fin s m e) (fin t n d) p q h = sum_number s (m * up e * down d) (not t) (n * up d * down e) (down e * down d)

no_zero_above : (t : Bool) (d : ℤ) → lt zero32 (fin t zero d) ≡ true → ⊥
unfolding lt of_bits
no_zero_above true d h = false≢true h
no_zero_above false d h = true≢false (sym h ∙ le-ltb (0 * down d) (0 * up d * 1) (le_of_eq (rw (zero-mul (up d), zero-mul (down d)))))

-- a product with what is above 0
mul_number : (x y : Float) → is_nan x ≡ false → is_finite y ≡ true → lt zero32 y ≡ true → is_nan (mul binary32 x y) ≡ false
unfolding is_nan mul
mul_number nan y p q h = absurd (true≢false p)
mul_number (inf s) nan p q h = absurd (false≢true q)
mul_number (inf s) (inf t) p q h = absurd (false≢true q)
mul_number (fin s m e) nan p q h = absurd (false≢true q)
mul_number (fin s m e) (inf t) p q h = absurd (false≢true q)
mul_number (inf s) (fin t zero d) p q h = absurd (no_zero_above t d h)
mul_number (inf s) (fin t (suc n) d) p q h = rw (ne_eqb (suc n) 0 (λ e. omega arith))
mul_number (fin s m e) (fin t n d) p q h = round_number (unlike s t) (m * up e * (n * up d)) (down e * down d)

-- ---- a square is not below zero

zero_rounded : round binary32 false 0 1 ≡ zero32
unfolding round size span climb units odd of_bits of_fields
zero_rounded = refl

round_at_least_0 : (a c : ℕ) → 0 < c → le zero32 (round binary32 false a c) ≡ true
round_at_least_0 a c h =
    is_true (le zero32 (round binary32 false a c))
    (subst (λ (z : Float). T (le z (round binary32 false a c))) zero_rounded
    (round_mono binary32 0 1 a c (zero-lt-suc 0) h (le_trans (le_of_eq (zero-mul c)) zero-le)))

square_at_least_0 : (x : Float) → is_nan x ≡ false → le zero32 (square x) ≡ true
square_at_least_0 nan h = absurd (true≢false (unfold is_nan in h))
square_at_least_0 (inf true) h = unfold mul le lt eq of_bits in refl
square_at_least_0 (inf false) h = unfold mul le lt eq of_bits in refl
square_at_least_0 (fin true m e) h = unfold mul in round_at_least_0 (m * up e * (m * up e)) (down e * down e) (mul-pos (down_pos e) (down_pos e))
square_at_least_0 (fin false m e) h = unfold mul in round_at_least_0 (m * up e * (m * up e)) (down e * down e) (mul-pos (down_pos e) (down_pos e))

-- ---- a ray

finite_number : (x : Float) → is_finite x ≡ true → is_nan x ≡ false
unfolding is_nan
finite_number nan h = absurd (false≢true h)
finite_number (inf s) h = absurd (false≢true h)
finite_number (fin s m e) h = refl

or_first_true : (a b : Bool) → a ≡ true → a || b ≡ true
or_first_true a b h = rw h

-- minus infinity is beyond every finite truncation
beyond_infinity : (most : Float) → is_finite most ≡ true → beyond most (inf true) ≡ true
unfolding lt neg
beyond_infinity nan h = absurd (false≢true h)
beyond_infinity (inf s) h = absurd (false≢true h)
beyond_infinity (fin s m e) h = refl

less_infinity : (depth : Float) → is_finite depth ≡ true → sub binary32 depth (inf false) ≡ inf true
unfolding sub add neg
less_infinity nan h = absurd (false≢true h)
less_infinity (inf s) h = absurd (false≢true h)
less_infinity (fin s m e) h = refl

infinite : (x : Float) → le zero32 x ≡ true → is_finite x ≡ false → x ≡ inf false
infinite nan h f = absurd (false≢true (unfold le lt eq of_bits in h))
infinite (inf true) h f = absurd (false≢true (unfold le lt eq of_bits in h))
infinite (inf false) h f = refl
infinite (fin s m e) h f = absurd (true≢false f)

-- what the code sums is that sum
pub squares_is :
    (size : Float) (key : ℕ) (x y z : Metres) (at : Coords) (dx dy dz : Float)
    → at ≡ record { x = x_of key; y = y_of key; z = z_of key }
    → dx ≡ apart at.x size x.0
    → dy ≡ apart at.y size y.0
    → dz ≡ apart at.z size z.0
    → add binary32 (add binary32 (square dx) (square dy)) (square dz) ≡ squares size key x.0 y.0 z.0
unfolding squares
squares_is size key x y z at dx dy dz e p q r = rw (p, q, r, e)

module _ (size : Float) (key : ℕ) (x y z depth : Metres) (c : Float) (p : positive_to thousand size ≡ true) (ok : reading_ok (Ray x y z depth c) ≡ true) where
  finite_x : is_finite x.0 ≡ true
  finite_x = and_first (is_finite x.0) _ ok

  rest_y : is_finite y.0 && (is_finite z.0 && (is_finite depth.0 && between zero32 one32 c)) ≡ true
  rest_y = and_second (is_finite x.0) _ ok

  finite_y : is_finite y.0 ≡ true
  finite_y = and_first (is_finite y.0) _ rest_y

  finite_z : is_finite z.0 ≡ true
  finite_z = and_first (is_finite z.0) _ (and_second (is_finite y.0) _ rest_y)

  finite_depth : is_finite depth.0 ≡ true
  finite_depth = and_first (is_finite depth.0) _ (and_second (is_finite z.0) _ (and_second (is_finite y.0) _ rest_y))

  apart_number : (cells : ℕ) (sensor : Float) → is_finite sensor ≡ true → is_nan (apart cells size sensor) ≡ false
  unfolding of_int
  apart_number cells sensor h =
      sub_number (metres_of cells size).0 sensor
      (mul_number (round binary32 false cells 1) size (round_number false cells 1)
      (positive_finite thousand size (unfold of_bits in refl) p) (and_first (lt zero32 size) _ p))
      (finite_number sensor h)
      (rw h (or-true (is_finite (metres_of cells size).0)))

  -- a sum of squares is not below zero, so the root takes it
  pub squares_at_least_0 : le zero32 (squares size key x.0 y.0 z.0) ≡ true
  unfolding squares
  squares_at_least_0 =
      sum_at_least_0 _ _
      (sum_at_least_0 _ _
      (square_at_least_0 _ (apart_number (x_of key) x.0 finite_x))
      (square_at_least_0 _ (apart_number (y_of key) y.0 finite_y)))
      (square_at_least_0 _ (apart_number (z_of key) z.0 finite_z))

  -- the root's answer to it
  pub root_taken :
      (a : Result Float Refusal) (l : Float)
      → a ≡ root_answer (squares size key x.0 y.0 z.0)
      → a ≡ Ok l
      → sub binary32 depth.0 l ≡ ray_distance size key x.0 y.0 z.0 depth.0
  unfolding ray_distance
  root_taken a l e q =
      let t = taken (squares size key x.0 y.0 z.0) squares_at_least_0 in
      let same : l ≡ root_of (squares size key x.0 y.0 z.0) = cc in
      rw same

  pub root_not_refused : (a : Result Float Refusal) (why : Refusal) → a ≡ root_answer (squares size key x.0 y.0 z.0) → a ≡ Err why → ⊥
  root_not_refused a why e q =
      let t = taken (squares size key x.0 y.0 z.0) squares_at_least_0 in
      let n : ◌≡◌ {A = ℕ} 0 1 = cc in
      omega arith

  -- a ray's distance is never a NaN
  pub ray_number : is_nan (ray_distance size key x.0 y.0 z.0 depth.0) ≡ false
  unfolding ray_distance
  ray_number =
      sub_number depth.0 (root_of (squares size key x.0 y.0 z.0)) (finite_number depth.0 finite_depth)
      (root_number (squares size key x.0 y.0 z.0) (le_second zero32 _ squares_at_least_0))
      (or_first_true (is_finite depth.0) _ finite_depth)

  -- and minus infinity where the sum of squares overflows
  pub ray_overflow : is_finite (squares size key x.0 y.0 z.0) ≡ false → ray_distance size key x.0 y.0 z.0 depth.0 ≡ inf true
  unfolding ray_distance root_of
  ray_overflow f =
      rw (infinite (squares size key x.0 y.0 z.0) squares_at_least_0 f) (less_infinity depth.0 finite_depth)

-- which is Far
pub overflow_far :
    (s : Settings) (key : ℕ) (x y z depth : Metres) (c : Float)
    → settings_ok s ≡ true
    → on_lattice key ≡ true
    → reading_ok (Ray x y z depth c) ≡ true
    → is_finite (squares s.voxel_size.0 key x.0 y.0 z.0) ≡ false
    → admitted s key (Ray x y z depth c) ≡ (Ok None)
unfolding admitted admit_if
overflow_far s key x y z depth c good on ok f =
    let most = s.truncation.0 in
    let near : positive_to thousand most ≡ true = and_first (positive_to thousand most) _ good in
    rw (
      on,
      ok,
      ray_overflow s.voxel_size.0 key x y z depth c (settings_known s good).size ok f,
      beyond_infinity most (positive_finite thousand most (unfold of_bits in refl) near),
    )
