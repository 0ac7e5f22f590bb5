-- `surfaces::box_of` meets its contract: what is left of the vertices says what all of them say.
-- Assumes nothing.
use Prim.Native.Nat.{◌≤◌}
use mathlib.Core.Path.{◌≡◌}
use lib.ListN.{drop}
use Rattle.corners.specs.Read.{points_in}
use Rattle.surfaces.specs.Boxes.{box_of}
use Rattle.surfaces.proofs.BoxLaws.{corners_from}
use Rattle.surfaces.proofs.box_of.Given as goal

abbrev pub invariant-loop-i : goal.invariant-loop-i
invariant-loop-i l = (l.i ≤ l.vertices.count) × (box_of (points_in l.vertices) ≡ corners_from l.low l.high (drop l.i (points_in l.vertices)))
