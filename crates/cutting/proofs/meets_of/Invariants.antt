-- `cutting::meets_of` meets its contract: of the cells that were passed it is told.
-- Assumes nothing.
use Prim.Native.Nat.{◌-◌, ◌≤◌}
use mathlib.Core.Path.{◌≡◌}
use lib.ListN.{length}
use Rattle.cutting.specs.Steps.{MeetsUpTo}
use Rattle.cutting.proofs.meets_of.Given as goal

abbrev pub invariant-loop-i : goal.invariant-loop-i
invariant-loop-i l = (l.i ≤ length l.cells) × (length l.meets ≡ 196) × MeetsUpTo l.cells l.i l.meets

abbrev pub decreases-loop-i : goal.decreases-loop-i
decreases-loop-i l = length l.cells - l.i
