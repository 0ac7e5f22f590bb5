-- `table::rows_ok` meets its contract: the rows that are left pass exactly when all do.
-- Assumes nothing.
use Prim.Native.Nat.{◌≤◌}
use mathlib.Core.Path.{◌≡◌}
use lib.ListN.{drop}
use Rattle.table.specs.Table.{rows_of, rows_ok}
use Rattle.table.proofs.rows_ok.Given as goal

abbrev pub invariant-loop-i : goal.invariant-loop-i
invariant-loop-i l = (l.i ≤ l.fn.rows.count) × (rows_ok l.most (rows_of l.fn.rows.keys.now l.fn.rows.distances.now l.fn.rows.weights.now l.fn.rows.count) ≡ rows_ok l.most (drop l.i (rows_of l.fn.rows.keys.now l.fn.rows.distances.now l.fn.rows.weights.now l.fn.rows.count)))
