-- Questions about one cell: its distance, its weight, and whether it is near the surface.
use Rattle.std.specs.Prelude.{ℕ, Bool, true, false, get_or, take, Float, Ok, Err, Some, None, Option, Result}
use Rattle.std.specs.Float.{nan}
use Rattle.std.specs.Float.Ieee.{lt}
use Rattle.floats.specs.Floats.{size_of, is_finite}
use Rattle.ids.specs.Key.{on_lattice}
use Rattle.refusals.specs.Refusals.{answer_number, found_number}
use Rattle.refusals.specs.declared.Refusal.TheVariants.{OffLattice, BadReading}
use Rattle.table.specs.declared.Settings.{Settings}
use Rattle.search.specs.Keys.{find}
use Rattle.table.specs.Table.{Table, table_check}
use Rattle.table.specs.declared.Voxel.{Voxel}
use Rattle.refusals.specs.declared.Refusal.{Refusal}
use Rattle.floats.specs.declared.Metres.{Metres}

-- the row at a found place, which is never past the lists
unfoldable pub row_at : Table → Option ℕ → Option Voxel
row_at t (Some i) = Some (record { distance = get_or t.distances i nan; weight = get_or t.weights i nan })
row_at t None = None

-- a key off the lattice is a 4
unfoldable pub row_if : Bool → Option Voxel → Result (Option Voxel) Refusal
row_if true row = Ok row
row_if false row = Err OffLattice

-- the row of a key that is on the lattice
unfoldable pub row_of : Table → ℕ → Result (Option Voxel) Refusal
unfolding row_at row_if
row_of t k = row_if (on_lattice k) (row_at t (find k (take t.count t.keys)))

-- what the tests of the table refuse stays refused
unfoldable pub looked_if : Result (Unit {0}) Refusal → Result (Option Voxel) Refusal → Result (Option Voxel) Refusal
looked_if (Ok tt) row = row
looked_if (Err why) row = Err why

-- a cell's row: refusals 1, 2 and 3, then 4, then Absent where it is not stored
unfoldable pub looked_up : Settings → Table → ℕ → Result (Option Voxel) Refusal
unfolding looked_if row_of
looked_up s t k = looked_if (table_check s t) (row_of t k)

-- its distance
abbrev pub distance_of : Result (Option Voxel) Refusal → Result (Option Metres) Refusal
distance_of (Ok (Some v)) = Ok (Some (record { 0 = v.distance }))
distance_of (Ok None) = Ok None
distance_of (Err why) = Err why

-- its weight
abbrev pub weight_of : Result (Option Voxel) Refusal → Result (Option Float) Refusal
weight_of (Ok (Some v)) = Ok (Some v.weight)
weight_of (Ok None) = Ok None
weight_of (Err why) = Err why

-- a threshold that is not finite is a 5
unfoldable pub surface_if : Bool → Bool → Result Bool Refusal
surface_if true near = Ok near
surface_if false near = Err BadReading

-- |distance| is below the threshold; no where the cell is not stored
unfoldable pub surface_of : Float → Result (Option Voxel) Refusal → Result Bool Refusal
unfolding surface_if
surface_of threshold (Ok (Some v)) = surface_if (is_finite threshold) (lt (size_of v.distance) threshold)
surface_of threshold (Ok None) = surface_if (is_finite threshold) false
surface_of threshold (Err why) = Err why

-- the number of an answer: 0 where there is one, Absent's, or document 01's of the refusal
abbrev pub distance_number : Result (Option Metres) Refusal → ℕ
distance_number answer = found_number answer

abbrev pub weight_number : Result (Option Float) Refusal → ℕ
weight_number answer = found_number answer

abbrev pub surface_number : Result Bool Refusal → ℕ
surface_number answer = answer_number answer
