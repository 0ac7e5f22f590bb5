-- `marched::rows_ok` meets its contract: the rows that are left pass exactly when all do.
-- Assumes nothing.
use Prim.Native.Nat.{◌≤◌}
use mathlib.Core.Path.{◌≡◌}
use lib.ListN.{drop}
use Rattle.marched.specs.Marched.{marched_rows_of, marched_rows_ok}
use Rattle.marched.proofs.rows_ok.Given as goal

abbrev pub invariant-loop-i : goal.invariant-loop-i
invariant-loop-i l = (l.i ≤ l.fn.field.count)
    × (marched_rows_ok (marched_rows_of l.fn.field.keys.now l.fn.field.distances.now l.fn.field.count)
    ≡ marched_rows_ok (drop l.i (marched_rows_of l.fn.field.keys.now l.fn.field.distances.now l.fn.field.count)))
