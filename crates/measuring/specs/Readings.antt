-- A reading: which are taken, and the signed distance that one gives a cell.
use Rattle.std.specs.Prelude.{ℕ, Bool, true, false, cond, ◌&&◌, Float, Ok, Err, Some, None, Option, Result}
use Rattle.std.specs.Float.{binary32}
use Rattle.std.specs.Float.Ieee.{add, sub, mul}
use Rattle.bcc_utils.specs.Metres.{metres_of}
use Rattle.floats.specs.Floats.{zero32, one32, is_finite, between, beyond}
use Rattle.ids.specs.Key.{x_of, y_of, z_of, on_lattice}
use Rattle.refusals.specs.declared.Refusal.{Refusal}
use Rattle.refusals.specs.declared.Refusal.TheVariants.{OffLattice, BadReading}
use Rattle.root.specs.Root.{root_of}
use Rattle.table.specs.declared.Settings.{Settings}
use Rattle.measuring.specs.declared.Reading.{Reading}
use Rattle.measuring.specs.declared.Reading.TheVariants.{Direct, Ray}
use Rattle.measuring.specs.declared.Measured.{Measured}

-- its numbers are finite and its confidence is from 0 to 1
abbrev pub reading_ok : Reading → Bool
reading_ok (Direct d c) = is_finite d.0 && between zero32 one32 c
reading_ok (Ray x y z depth c) = is_finite x.0 && (is_finite y.0 && (is_finite z.0 && (is_finite depth.0 && between zero32 one32 c)))

-- from the sensor to the cell along one axis
abbrev pub apart : ℕ → Float → Float → Float
apart cells size sensor = sub binary32 (metres_of cells size).0 sensor

-- x times itself
abbrev pub square : Float → Float
square x = mul binary32 x x

-- the squares of the three, summed in order
unfoldable pub squares : Float → ℕ → Float → Float → Float → Float
squares size key x y z =
    add binary32 (add binary32 (square (apart (x_of key) size x)) (square (apart (y_of key) size y))) (square (apart (z_of key) size z))

-- a ray's signed distance: its depth less the rooted distance of the cell from the sensor
unfoldable pub ray_distance : Float → ℕ → Float → Float → Float → Float → Float
ray_distance size key x y z depth = sub binary32 depth (root_of (squares size key x y z))

-- what a reading says of a cell
abbrev pub measured : Float → ℕ → Reading → Measured
measured size key (Direct d c) = record { distance = d.0; confidence = c }
measured size key (Ray x y z depth c) = record { distance = ray_distance size key x.0 y.0 z.0 depth.0; confidence = c }

-- a test that must pass before the rest counts
unfoldable pub admit_if : Bool → Refusal → Result (Option Measured) Refusal → Result (Option Measured) Refusal
admit_if true why rest = rest
admit_if false why rest = Err why

-- Far where the distance is larger in size than the truncation
abbrev pub near_or_far : Settings → Measured → Result (Option Measured) Refusal
near_or_far s m = cond (beyond s.truncation.0 m.distance) (Ok None) (Ok (Some m))

-- refusals 4 and 5, then Far
unfoldable pub admitted : Settings → ℕ → Reading → Result (Option Measured) Refusal
unfolding admit_if
admitted s k r =
    admit_if (on_lattice k) OffLattice (admit_if (reading_ok r) BadReading (near_or_far s (measured s.voxel_size.0 k r)))
