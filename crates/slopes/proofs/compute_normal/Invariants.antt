-- `slopes::compute_normal` meets its contract: what is left of the neighbours says what all of them say.
-- Assumes nothing.
use Prim.Native.Nat.{◌≤◌}
use mathlib.Core.Path.{◌≡◌}
use lib.ListN.{drop}
use Rattle.neighbors.specs.Neighbors.{neighbours}
use Rattle.slopes.specs.Stored.{distance_by}
use Rattle.slopes.specs.Normals.{no_slopes, slopes_from}
use Rattle.slopes.proofs.compute_normal.Given as goal

abbrev pub invariant-loop-neighbour : goal.invariant-loop-neighbour
invariant-loop-neighbour l =
    (l.sum.count ≤ l.neighbour-index)
    × (slopes_from (distance_by l.fn.field.keys.now l.fn.field.distances.now l.fn.field.count) l.voxel_size.0 l.key l.d no_slopes (neighbours l.key)
    ≡ slopes_from (distance_by l.fn.field.keys.now l.fn.field.distances.now l.fn.field.count) l.voxel_size.0 l.key l.d l.sum (drop l.neighbour-index (neighbours l.key)))
