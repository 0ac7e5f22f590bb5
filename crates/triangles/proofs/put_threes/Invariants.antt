-- `triangles::put_threes` meets its contract: what is left in each of the three loops says what was left where the loop began.
-- Assumes nothing.
use Prim.Native.Nat.{◌≤◌, ◌-◌}
use lib.ListN.{length}
use Rattle.lists.proofs.Putting.{Putting}
use Rattle.triangles.proofs.PuttingLaws.{outer, middle, inner}
use Rattle.triangles.proofs.put_threes.Given as goal

abbrev pub invariant-loop-k : goal.invariant-loop-k
invariant-loop-k l = (l.k ≤ length l.group)
    × Putting (inner l.group l.i l.j l.initial.k) l.initial.end l.initial.t0 l.initial.t1 l.initial.t2
    (inner l.group l.i l.j l.k) l.end l.t0 l.t1 l.t2

abbrev pub decreases-loop-k : goal.decreases-loop-k
decreases-loop-k l = length l.group - l.k

abbrev pub invariant-loop-j : goal.invariant-loop-j
invariant-loop-j l = (l.j ≤ length l.group)
    × Putting (middle l.group l.i l.initial.j) l.initial.end l.initial.t0 l.initial.t1 l.initial.t2
    (middle l.group l.i l.j) l.end l.t0 l.t1 l.t2

abbrev pub decreases-loop-j : goal.decreases-loop-j
decreases-loop-j l = length l.group - l.j

abbrev pub invariant-cell : goal.invariant-cell
invariant-cell l = (l.i ≤ length l.group)
    × Putting (outer l.group 0) l.at l.initial.t0 l.initial.t1 l.initial.t2 (outer l.group l.i) l.end l.t0 l.t1 l.t2

abbrev pub decreases-cell : goal.decreases-cell
decreases-cell l = length l.group - l.i
