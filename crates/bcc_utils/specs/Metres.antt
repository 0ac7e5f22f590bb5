-- Metres into cells and back: only the voxel size turns one into the other.
use Rattle.std.specs.Prelude.{ℕ, Bool, cond, ◌&&◌, ℤ, pos, Float, Ok, Err, Result}
use Rattle.std.specs.Float.{binary32}
use Rattle.std.specs.Float.Ieee.{div, mul, of_int}
use Rattle.refusals.specs.declared.Refusal.TheVariants.{Setting, BadReading}
use Rattle.floats.specs.Floats.{thousand, positive_to, is_finite, whole_of}
use Rattle.floats.specs.declared.Metres.{Metres}
use Rattle.bcc_utils.specs.Snapping.{snapped}
use Rattle.refusals.specs.declared.Refusal.{Refusal}
use Rattle.bcc_utils.specs.declared.WideCells.{WideCells}

-- what is rounded goes on; what cannot be is refused
abbrev pub and_then : Result ℤ Refusal → (ℤ → Result (WideCells × WideCells × WideCells) Refusal) → Result (WideCells × WideCells × WideCells) Refusal
and_then (Ok w) next = next w
and_then (Err r) next = Err r

-- a length divided by the voxel size and rounded half away from zero
abbrev pub cells_of : Float → Float → Result ℤ Refusal
cells_of length size = whole_of (div binary32 length size)

-- divide, round, snap
unfoldable pub place_snapped : Float → Float → Float → Float → Result (WideCells × WideCells × WideCells) Refusal
place_snapped x y z size =
    and_then (cells_of x size) (λ a. and_then (cells_of y size) (λ b. and_then (cells_of z size) (λ c. snapped a b c)))

-- a position is finite
abbrev pub is_place : Float → Float → Float → Bool
is_place x y z = is_finite x && is_finite y && is_finite z

-- refused with 1 for a voxel size that is not above 0 to 1,000, then with 5 for a position that is not finite
unfoldable pub voxel_of : Float → Float → Float → Float → Result (WideCells × WideCells × WideCells) Refusal
voxel_of x y z size =
    cond (positive_to thousand size) (cond (is_place x y z) (place_snapped x y z size) (Err BadReading)) (Err Setting)

-- a whole number of cells, times the voxel size, rounded once
abbrev pub metres_of : ℕ → Float → Metres
metres_of cells size = record { 0 = mul binary32 (of_int binary32 (pos cells)) size }
