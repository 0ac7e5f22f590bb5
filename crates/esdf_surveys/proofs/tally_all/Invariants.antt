-- `esdf_surveys::tally_all` meets its contract: the rows that are left say what all say.
-- Assumes nothing.
use Prim.Native.Nat.{◌≤◌}
use mathlib.Core.Path.{◌≡◌}
use lib.ListN.{drop}
use Rattle.marched.specs.Marched.{marched_rows_of}
use Rattle.esdf_surveys.specs.Statistics.{no_tally, tallied_all}
use Rattle.esdf_surveys.proofs.tally_all.Given as goal

abbrev pub invariant-loop-i : goal.invariant-loop-i
invariant-loop-i l = (l.i ≤ l.fn.field.count)
    × (l.tally.obstacles ≤ l.i)
    × (l.tally.free ≤ l.i)
    × (tallied_all no_tally (marched_rows_of l.fn.field.keys.now l.fn.field.distances.now l.fn.field.count)
    ≡ tallied_all l.tally (drop l.i (marched_rows_of l.fn.field.keys.now l.fn.field.distances.now l.fn.field.count)))
