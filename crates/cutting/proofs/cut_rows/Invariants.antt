-- `cutting::cut_rows` meets its contract: what is left of the rows says what all of them say.
-- Assumes nothing.
use Prim.Native.Nat.{◌*◌, ◌-◌, ◌≤◌}
use Rattle.table.specs.Table.{rows_of}
use Rattle.cutting.proofs.GoingLaws.{Going}
use Rattle.cutting.proofs.OwnLaws.{rows_from}
use Rattle.cutting.proofs.cut_rows.Given as goal

abbrev pub invariant-loop-row : goal.invariant-loop-row
invariant-loop-row l = let left = rows_from (rows_of l.fn.rows.keys.now l.fn.rows.distances.now l.fn.rows.weights.now l.fn.rows.count) in
    (l.row ≤ l.fn.rows.count) × (l.end ≤ 5488 * l.row) × Going (left 0) 0 l.initial.t0 l.initial.t1 l.initial.t2 (left l.row) l.end l.t0 l.t1 l.t2

abbrev pub decreases-loop-row : goal.decreases-loop-row
decreases-loop-row l = l.fn.rows.count - l.row
