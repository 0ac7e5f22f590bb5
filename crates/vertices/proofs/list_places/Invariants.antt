-- `vertices::list_places` meets its contract: what is left of the edges says what all of them say.
-- Assumes nothing.
use Prim.Native.Nat.{min}
use mathlib.Core.Path.{◌≡◌}
use lib.ListN.{length}
use lib.Seq.{sets}
use Rattle.slopes.specs.Stored.{distance_by}
use Rattle.slopes.specs.Vertices.{xs_of, ys_of, zs_of}
use Rattle.vertices.proofs.Columns.{vertices_from}
use Rattle.vertices.proofs.list_places.Given as goal

abbrev pub invariant-loop-i : goal.invariant-loop-i
invariant-loop-i l = let from = vertices_from (distance_by l.fn.field.keys.now l.fn.field.distances.now l.fn.field.count) l.voxel_size.0 l.edges l.first l.second in
    (l.n ≡ min l.edges (min (length l.first) (length l.second)))
    × (length l.px ≡ length l.initial.px)
    × (length l.py ≡ length l.initial.py)
    × (length l.pz ≡ length l.initial.pz)
    × (sets l.initial.px 0 (xs_of (from 0)) ≡ sets l.px l.i (xs_of (from l.i)))
    × (sets l.initial.py 0 (ys_of (from 0)) ≡ sets l.py l.i (ys_of (from l.i)))
    × (sets l.initial.pz 0 (zs_of (from 0)) ≡ sets l.pz l.i (zs_of (from l.i)))
