-- `rings::is_joint` meets its contract: what is left of the neighbours says what all of them say.
-- Assumes nothing.
use mathlib.Core.Path.{◌≡◌}
use lib.ListN.{drop}
use Rattle.rings.specs.Rings.{any, weighted_by, completed, joint_by}
use Rattle.rings.proofs.is_joint.Given as goal

abbrev pub invariant-loop-third : goal.invariant-loop-third
invariant-loop-third l =
    let f = completed (weighted_by l.keys l.weights l.count l.near) l.cells l.other in
    joint_by (weighted_by l.keys l.weights l.count l.near) l.cell l.other ≡ any f (drop l.third-index l.cells)
