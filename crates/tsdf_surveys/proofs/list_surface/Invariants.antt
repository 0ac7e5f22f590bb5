-- `tsdf_surveys::list_surface` meets its contract: what is left of the rows is written after what was.
-- Assumes nothing.
use mathlib.Core.Path.{◌≡◌}
use Prim.Native.Nat.{◌+◌, ◌≤◌}
use lib.ListN.{length}
use lib.Seq.{sets}
use Rattle.table.specs.Table.{rows_of}
use Rattle.tsdf_surveys.specs.Surface.{surface_keys}
use Rattle.tsdf_surveys.proofs.RowByRow.{rest}
use Rattle.tsdf_surveys.proofs.list_surface.Given as goal

abbrev pub invariant-loop-i : goal.invariant-loop-i
invariant-loop-i l = (l.i ≤ l.fn.rows.count)
    × (l.n ≤ l.i)
    × (length (surface_keys l.threshold (rows_of l.fn.rows.keys.now l.fn.rows.distances.now l.fn.rows.weights.now l.fn.rows.count))
    ≡ l.n + length (surface_keys l.threshold (rest l.fn.rows.keys.now l.fn.rows.distances.now l.fn.rows.weights.now l.fn.rows.count l.i)))
    × (sets l.initial.out 0 (surface_keys l.threshold (rows_of l.fn.rows.keys.now l.fn.rows.distances.now l.fn.rows.weights.now l.fn.rows.count))
    ≡ sets l.out l.n (surface_keys l.threshold (rest l.fn.rows.keys.now l.fn.rows.distances.now l.fn.rows.weights.now l.fn.rows.count l.i)))
    × (length l.out ≡ length l.initial.out)
