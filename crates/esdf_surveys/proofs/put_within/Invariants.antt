-- `esdf_surveys::put_within` meets its contract: what is left to put says what the whole puts.
-- Assumes nothing.
use Prim.Native.Nat.{◌≤◌}
use mathlib.Core.Path.{◌≡◌}
use lib.ListN.{length}
use Rattle.marched.specs.Marched.{marched_rows_of}
use Rattle.esdf_surveys.proofs.Walking.{Putting}
use Rattle.esdf_surveys.proofs.put_within.Given as goal

abbrev pub invariant-loop-i : goal.invariant-loop-i
invariant-loop-i l = (l.i ≤ l.fn.field.count)
    × (l.n ≤ l.i)
    × (length l.out_keys ≡ length l.initial.out_keys)
    × (length l.out_distances ≡ length l.initial.out_distances)
    × Putting l.threshold (marched_rows_of l.fn.field.keys.now l.fn.field.distances.now l.fn.field.count) l.i l.n l.initial.out_keys l.initial.out_distances l.out_keys l.out_distances
