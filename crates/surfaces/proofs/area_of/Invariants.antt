-- `surfaces::area_of` meets its contract: what is left of the triangles says what all of them say.
-- Assumes nothing.
use Prim.Native.Nat.{◌≤◌}
use mathlib.Core.Path.{◌≡◌}
use mathlib.Core.Bool.{true}
use lib.ListN.{drop}
use Rattle.floats.specs.Floats.{zero32}
use Rattle.corners.specs.Corners.{every, triangle_ok}
use Rattle.corners.specs.Read.{points_in, numbers_in}
use Rattle.surfaces.specs.Areas.{area_from}
use Rattle.surfaces.proofs.area_of.Given as goal

abbrev pub invariant-loop-i : goal.invariant-loop-i
invariant-loop-i l = let vs = points_in l.vertices in
    let ts = numbers_in l.fn.triangles in
    (l.i ≤ l.fn.triangles.count)
    × (every (triangle_ok l.vertices.count) (drop l.i ts) ≡ true)
    × (area_from vs zero32 ts ≡ area_from vs l.area (drop l.i ts))
