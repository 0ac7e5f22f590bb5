-- `tsdf_surveys::tally_rows` meets its contract: what is left of the rows, tallied onto what was, says what all say.
-- Assumes nothing.
use mathlib.Core.Path.{◌≡◌}
use Prim.Native.Nat.{◌≤◌}
use Rattle.table.specs.Table.{rows_of}
use Rattle.tsdf_surveys.specs.Statistics.{no_tally, tallied_all}
use Rattle.tsdf_surveys.proofs.RowByRow.{rest}
use Rattle.tsdf_surveys.proofs.tally_rows.Given as goal

abbrev pub invariant-loop-i : goal.invariant-loop-i
invariant-loop-i l = (l.i ≤ l.fn.rows.count)
    × (l.sum.near ≤ l.i)
    × (tallied_all l.near no_tally (rows_of l.fn.rows.keys.now l.fn.rows.distances.now l.fn.rows.weights.now l.fn.rows.count) ≡ tallied_all l.near l.sum (rest l.fn.rows.keys.now l.fn.rows.distances.now l.fn.rows.weights.now l.fn.rows.count l.i))
