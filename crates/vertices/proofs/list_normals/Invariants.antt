-- `vertices::list_normals` meets its contract: what is left of the edges says what all of them say.
-- Assumes nothing.
use Prim.Native.Nat.{min}
use mathlib.Core.Path.{◌≡◌}
use lib.ListN.{length}
use lib.Seq.{sets}
use Rattle.slopes.specs.Stored.{distance_by}
use Rattle.slopes.specs.Normals.{normal_at, parts_x, parts_y, parts_z}
use Rattle.vertices.proofs.Columns.{normals_from}
use Rattle.vertices.proofs.list_normals.Given as goal

abbrev pub invariant-loop-i : goal.invariant-loop-i
invariant-loop-i l = let look = distance_by l.fn.field.keys.now l.fn.field.distances.now l.fn.field.count in
    let from = normals_from look l.voxel_size.0 l.edges l.first in
    (l.n ≡ min l.edges (length l.first))
    × (l.normal ≡ normal_at look l.voxel_size.0 l.last)
    × (length l.nx ≡ length l.initial.nx)
    × (length l.ny ≡ length l.initial.ny)
    × (length l.nz ≡ length l.initial.nz)
    × (sets l.initial.nx 0 (parts_x (from 0)) ≡ sets l.nx l.i (parts_x (from l.i)))
    × (sets l.initial.ny 0 (parts_y (from 0)) ≡ sets l.ny l.i (parts_y (from l.i)))
    × (sets l.initial.nz 0 (parts_z (from 0)) ≡ sets l.nz l.i (parts_z (from l.i)))
