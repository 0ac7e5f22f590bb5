-- What the private functions of `floats` promise each other. No public contract cites these.
use Rattle.std.specs.Prelude.{ℕ, Float}
use Rattle.std.specs.Float.{nan, inf, fin}
use Rattle.floats.specs.Floats.{f32, halves_up}

-- 2 ^ 32: from here on no i32 is near
abbrev pub too_large_lem : Float
too_large_lem = f32 0x4F80_0000

-- |x| to the nearest whole number, halves up
abbrev pub size_up : Float → ℕ
size_up nan = 0
size_up (inf s) = 0
size_up (fin s m e) = halves_up m e
