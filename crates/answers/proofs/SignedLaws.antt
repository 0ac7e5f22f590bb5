-- Signed numbers pass through their bits: each is read back as it was, since it fits. Assumes nothing.
use mathlib.Core.Path.{◌≡◌}
use lib.IntN.{ℤ}
use lib.Signed.{mag}
use Prim.Native.Nat.{◌<◌, ◌^◌}
use mir.Syntax.{w32}
use mir.Val.{to_z, of_z, hbits, SFits}
use mir.ValLaws.{to_z-of_z}

pub three_read :
    {A : Type 0}
    (f : ℤ → ℤ → ℤ → A)
    (x y z : ℤ)
    → SFits w32 x
    → SFits w32 y
    → SFits w32 z
    → f (to_z w32 (of_z w32 x)) (to_z w32 (of_z w32 y)) (to_z w32 (of_z w32 z)) ≡ f x y z
three_read f x y z fx fy fz = rw (to_z-of_z w32 x fx, to_z-of_z w32 y fy, to_z-of_z w32 z fz)

pub read_back : (z : ℤ) → mag z < 2 ^ hbits w32 → to_z w32 (of_z w32 z) ≡ z
read_back z h = to_z-of_z w32 z (record { sfits = h })
