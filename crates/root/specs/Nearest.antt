-- What the nearest binary32 value to a square root is, without saying how it is found. The root is no fraction, so it is said of squares:
-- r is nearer to the root of x than y is, if the middle of r and y lies beyond the root, seen from r: (r + y) ^ 2 and 4 * x are compared.
use Rattle.std.specs.Prelude.{ℕ, ◌+◌, ◌-◌, ◌*◌, ◌<◌, true, false, T, Float}
use Rattle.std.specs.Float.{nan, inf, fin, binary32}
use Rattle.std.specs.Float.Ieee.{up, down, lt, fits}
use Rattle.std.specs.Float.Ieee.Positive.{num, den, positive}
use Rattle.floats.specs.Floats.{is_finite}

abbrev pub square : ℕ → ℕ
square n = n * n

-- r + y, for an r that is not below zero, is this over den r * den y; 0 where it would be below zero
abbrev pub plus : Float → Float → ℕ
plus r nan = 0
plus r (inf s) = 0
plus r (fin true n d) = num r * down d - n * up d * den r
plus r (fin false n d) = num r * down d + n * up d * den r

-- (r + y) ^ 2 < 4 * x, multiplied out
abbrev pub Under : Float → Float → Float → Type 0
Under x r y = square (plus r y) * den x < 4 * num x * square (den r * den y)

-- 4 * x < (r + y) ^ 2, multiplied out
abbrev pub Over : Float → Float → Float → Type 0
Over x r y = 4 * num x * square (den r * den y) < square (plus r y) * den x

-- r is strictly nearer to the root of x than y is, if y is another number
pub record Nearer (x r y : Float) : Type 0 where
  pub above : T (lt r y) → Over x r y
  pub below : T (lt y r) → Under x r y

-- r is a binary32 value above zero, and strictly nearer to the root of x than any other finite binary32 value: there is no tie
pub record IsNearest (x r : Float) : Type 0 where
  pub holds : T (fits binary32 r)
  pub number : T (positive r)
  pub nearer : (y : Float) → T (fits binary32 y) → T (is_finite y) → Nearer x r y
