-- `cutting::mark_meets` meets its contract: those that were passed are told.
-- Assumes nothing.
use Prim.Native.Nat.{◌-◌, ◌≤◌, ◌<◌}
use mathlib.Core.Path.{◌≡◌}
use lib.ListN.{length}
use Rattle.cutting.proofs.MeetLaws.{Telling}
use Rattle.cutting.proofs.mark_meets.Given as goal

abbrev pub invariant-loop-l : goal.invariant-loop-l
invariant-loop-l l = (l.i < l.l) × (l.l ≤ length l.cells) × (length l.meets ≡ length l.initial.meets) × Telling l.cells l.i l.l l.meets

abbrev pub decreases-loop-l : goal.decreases-loop-l
decreases-loop-l l = length l.cells - l.l
