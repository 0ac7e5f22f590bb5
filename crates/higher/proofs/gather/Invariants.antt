-- `higher::gather` meets its contract: the places gathered are those of the cells passed, from the last one down.
-- Assumes nothing.
use mathlib.Core.Path.{◌≡◌}
use lib.ListN.{drop}
use Rattle.handful.specs.Handfuls.{held}
use Rattle.groups.specs.Near.{gathered}
use Rattle.higher.specs.Places.{found_above}
use Rattle.higher.proofs.gather.Given as goal

abbrev pub invariant-loop-i : goal.invariant-loop-i
invariant-loop-i l = l.places ≡ held (gathered (found_above l.keys l.weights l.count l.row) (drop l.i l.cells))
