-- `corners::vertices_ok` meets its contract: the entries that are left pass exactly when all do.
-- Assumes nothing.
use Prim.Native.Nat.{◌≤◌}
use mathlib.Core.Path.{◌≡◌}
use lib.ListN.{drop}
use Rattle.corners.specs.Corners.{every, vertex_ok}
use Rattle.corners.specs.Read.{points_in}
use Rattle.corners.proofs.vertices_ok.Given as goal

abbrev pub invariant-loop-i : goal.invariant-loop-i
invariant-loop-i l = (l.i ≤ l.fn.vertices.count) × (every (vertex_ok) (points_in l.fn.vertices) ≡ every (vertex_ok) (drop l.i (points_in l.fn.vertices)))
