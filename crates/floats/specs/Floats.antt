-- Binary32 numbers by their bits, and what Rust's `abs`, `min`, `max`, `clamp`, `signum`, `is_finite` and `round` do, worked out here. Each is total.
use Rattle.std.specs.Prelude.{ℕ, ◌+◌, ◌-◌, ◌*◌, ◌/◌, ◌^◌, Bool, true, false, cond, ◌&&◌, ◌||◌, ℤ, pos, neg_ℤ, from_bits, nat_le, Float, Ok, Err, Result}
use Rattle.std.specs.Float.{nan, inf, fin, binary32}
use Rattle.std.specs.Float.Ieee.{up, down, neg, lt, le}
use Rattle.refusals.specs.declared.Refusal.TheVariants.{OutOfRange}
use Rattle.refusals.specs.declared.Refusal.{Refusal}

-- ---- numbers

-- the float of a bit pattern
abbrev pub f32 : ℕ → Float
f32 b = from_bits binary32 b

-- +0
abbrev pub zero32 : Float
zero32 = f32 0

-- 1
abbrev pub one32 : Float
one32 = f32 0x3F80_0000

-- 1,000
abbrev pub thousand : Float
thousand = f32 0x447A_0000

-- 1,000,000
abbrev pub million : Float
million = f32 0x4974_2400

-- the largest finite float
abbrev pub largest : Float
largest = f32 0x7F7F_FFFF

-- ---- operations

-- |x|: the same without its sign
abbrev pub size_of : Float → Float
size_of nan = nan
size_of (inf s) = inf false
size_of (fin s m e) = fin false m e

-- the earlier value, unless the later is strictly below it
abbrev pub smaller_of : Float → Float → Float
smaller_of a b = cond (lt b a) b a

-- the earlier value, unless the later is strictly above it
abbrev pub larger_of : Float → Float → Float
larger_of a b = cond (lt a b) b a

-- lo for what is below it, hi for what is above it, and otherwise x
abbrev pub clamp_of : Float → Float → Float → Float
clamp_of x lo hi = cond (lt x lo) lo (cond (lt hi x) hi x)

-- 1 or -1 by the sign bit, which a zero has too; a NaN for a NaN
abbrev pub sign_of : Float → Float
sign_of nan = nan
sign_of (inf s) = cond s (neg one32) one32
sign_of (fin s m e) = cond s (neg one32) one32

-- ---- tests, each false at a NaN

-- neither a NaN nor an infinity
abbrev pub is_finite : Float → Bool
is_finite nan = false
is_finite (inf s) = false
is_finite (fin s m e) = true

-- from lo to hi, both ends with it
abbrev pub between : Float → Float → Float → Bool
between lo hi x = le lo x && le x hi

-- at most `most` in size
abbrev pub within : Float → Float → Bool
within most x = between (neg most) most x

-- larger than `most` in size
abbrev pub beyond : Float → Float → Bool
beyond most x = lt most x || lt x (neg most)

-- above 0, up to hi
abbrev pub positive_to : Float → Float → Bool
positive_to hi x = lt zero32 x && le x hi

-- ---- rounding to a whole number

-- the size m * 2 ^ e to the nearest whole number, halves up
abbrev pub halves_up : ℕ → ℤ → ℕ
halves_up m e = (2 * (m * up e) + down e) / (2 * down e)

abbrev pub pick_nearest : Bool → Result ℤ Refusal → Result ℤ Refusal → Result ℤ Refusal
pick_nearest true a b = a
pick_nearest false a b = b

-- a whole size with its sign, where it is from -2 ^ 31 to 2 ^ 31 - 1
abbrev pub signed : Bool → ℕ → Result ℤ Refusal
signed true w = pick_nearest (nat_le w (2 ^ 31)) (Ok (neg_ℤ (pos w))) (Err OutOfRange)
signed false w = pick_nearest (nat_le w (2 ^ 31 - 1)) (Ok (pos w)) (Err OutOfRange)

-- the nearest whole number, halves away from zero; refused where it is no i32
unfoldable pub whole_of : Float → Result ℤ Refusal
whole_of nan = Err OutOfRange
whole_of (inf s) = Err OutOfRange
whole_of (fin s m e) = signed s (halves_up m e)
