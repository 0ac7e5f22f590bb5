-- The square root of a binary32 value: the nearest binary32 value, defined over whole numbers.
use Rattle.std.specs.Prelude.{ℕ, zero, suc, ◌+◌, ◌*◌, ◌/◌, ◌^◌, Bool, true, false, cond, nat_le, nat_lt, Float, Ok, Err, Result}
use Rattle.std.specs.Float.{nan, inf, fin, binary32}
use Rattle.std.specs.Float.Ieee.{up, down, size, round, le}
use Rattle.floats.specs.Floats.{zero32}
use Rattle.refusals.specs.Refusals.{number_of}
use Rattle.refusals.specs.declared.Refusal.TheVariants.{BadReading}
use Rattle.refusals.specs.declared.Refusal.{Refusal}

-- the whole part of the root of an n below 4 ^ k: twice that of n / 4, or one more
unfoldable pub root_below : ℕ → ℕ → ℕ
root_below zero n = 0
root_below (suc k) n = let r = 2 * root_below k (n / 4) in cond (nat_le ((r + 1) * (r + 1)) n) (r + 1) r

-- the largest s with s * s ≤ n
unfoldable pub isqrt : ℕ → ℕ
unfolding size root_below
isqrt n = root_below (size n) n

-- The root of n / 2 ^ 298, for an n of 2 ^ 149 at least, to the nearest value, ties to even. s / 2 ^ 149 is the root cut to a multiple of 1 / 2 ^ 149.
-- The values around a root of that size, and the middles between them, are such multiples too. So a root above s / 2 ^
-- 149 rounds as (2 * s + 1) / 2 ^ 150 does.
unfoldable pub rounded : ℕ → Float
unfolding isqrt round
rounded n = let s = isqrt n in round binary32 false (2 * s + cond (nat_lt (s * s) n) 1 0) (2 ^ 150)

-- The square root of a value that is not below zero. A positive value is 1 / 2 ^ 149 at least, so times 2 ^ 298 it is a
-- whole number, and large enough for `rounded`.
unfoldable pub root_of : Float → Float
unfolding rounded
root_of nan = nan
root_of (inf s) = inf s
root_of (fin s zero e) = fin s zero e
root_of (fin s (suc m) e) = rounded (suc m * up e * 2 ^ 298 / down e)

abbrev pub pick_rooted : Bool → Result Float Refusal → Result Float Refusal → Result Float Refusal
pick_rooted true a b = a
pick_rooted false a b = b

-- a NaN and what is below zero are refused
unfoldable pub root_answer : Float → Result Float Refusal
unfolding le root_of
root_answer x = pick_rooted (le zero32 x) (Ok (root_of x)) (Err BadReading)

-- document 01's number of the answer, 0 for no refusal
abbrev pub root_number : Result Float Refusal → ℕ
root_number (Ok r) = 0
root_number (Err r) = number_of r
