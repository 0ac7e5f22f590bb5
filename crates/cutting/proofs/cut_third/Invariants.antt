-- `cutting::cut_third` meets its contract: what is left of the cells says what all of them say.
-- Assumes nothing.
use Prim.Native.Nat.{◌+◌, ◌*◌, ◌-◌, ◌<◌, ◌≤◌}
use lib.ListN.{length}
use Rattle.groups.specs.CellEdges.{edges_in}
use Rattle.cutting.specs.Corners.{sided}
use Rattle.cutting.proofs.GoingLaws.{Going, third_from}
use Rattle.cutting.proofs.cut_third.Given as goal

abbrev pub invariant-loop-l : goal.invariant-loop-l
invariant-loop-l l = let left = third_from (edges_in l.first l.second l.edges) (sided l.own l.side) l.cells l.inside l.i l.j in
    (l.j < l.l) × (l.l ≤ length l.cells) × (l.end ≤ l.at + 2 * l.l)
    × Going (left (l.j + 1)) l.at l.initial.t0 l.initial.t1 l.initial.t2 (left l.l) l.end l.t0 l.t1 l.t2

abbrev pub decreases-loop-l : goal.decreases-loop-l
decreases-loop-l l = length l.cells - l.l
