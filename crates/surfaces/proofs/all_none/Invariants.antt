-- `surfaces::all_none` meets its contract: the entries that are left pass exactly when all do.
-- Assumes nothing.
use Prim.Native.Nat.{◌≤◌}
use mathlib.Core.Path.{◌≡◌}
use lib.ListN.{drop}
use Rattle.corners.specs.Corners.{every}
use Rattle.surfaces.specs.Stats.{is_none, normals_in}
use Rattle.surfaces.proofs.all_none.Given as goal

abbrev pub invariant-loop-i : goal.invariant-loop-i
invariant-loop-i l = let ns = normals_in l.fn.normals.first.now l.fn.normals.second.now l.fn.normals.third.now l.fn.normals.count in
    (l.i ≤ l.fn.normals.count) × (every is_none ns ≡ every is_none (drop l.i ns))
