-- `triangles::fill` meets its contract: the cells that are left say what all of them say.
-- Assumes nothing.
use Prim.Native.Nat.{◌≤◌, ◌*◌}
use lib.ListN.{take}
use Rattle.triangles.specs.Building.{source}
use Rattle.triangles.proofs.FillingLaws.{Filling}
use Rattle.triangles.proofs.fill.Given as goal

abbrev pub invariant-loop-cell : goal.invariant-loop-cell
invariant-loop-cell l = (l.numbers_end ≤ 14 * l.cell-index)
    × (l.triangles_end ≤ 364 * l.cell-index)
    × Filling (source l.keys l.n l.first l.second l.edges) (take l.n l.keys) l.initial.groups l.initial.t0 l.initial.t1 l.initial.t2 l.cell-index
    l.numbers_end l.triangles_end l.groups l.t0 l.t1
    l.t2
