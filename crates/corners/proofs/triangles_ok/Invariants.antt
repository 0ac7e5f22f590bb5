-- `corners::triangles_ok` meets its contract: the entries that are left pass exactly when all do.
-- Assumes nothing.
use Prim.Native.Nat.{◌≤◌}
use mathlib.Core.Path.{◌≡◌}
use lib.ListN.{drop}
use Rattle.corners.specs.Corners.{every, triangle_ok}
use Rattle.corners.specs.Read.{numbers_in}
use Rattle.corners.proofs.triangles_ok.Given as goal

abbrev pub invariant-loop-i : goal.invariant-loop-i
invariant-loop-i l = (l.i ≤ l.fn.triangles.count) × (every (triangle_ok l.vertices) (numbers_in l.fn.triangles) ≡ every (triangle_ok l.vertices) (drop l.i (numbers_in l.fn.triangles)))
