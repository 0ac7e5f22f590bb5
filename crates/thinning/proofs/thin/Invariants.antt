-- `thinning::thin` meets its contract: the marks of waiting cells that are left are those of cells further on.
-- Assumes nothing.
use Prim.Native.Nat.{◌≤◌}
use mathlib.Core.Path.{◌≡◌}
use lib.ListN.{length}
use Rattle.thinning.proofs.Forgetting.{Thinning}
use Rattle.thinning.proofs.thin.Given as goal

abbrev pub invariant-loop-i : goal.invariant-loop-i
invariant-loop-i l = (l.i ≤ l.waiting)
    × (length l.keys ≡ length l.initial.keys)
    × (length l.distances ≡ length l.initial.distances)
    × Thinning l.waiting l.cells l.initial.keys l.initial.distances l.i l.keys l.distances
