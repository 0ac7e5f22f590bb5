-- `higher::inside_at` meets its contract: what was written is the column at the places passed.
-- Assumes nothing.
use mathlib.Core.Path.{◌≡◌}
use mathlib.Core.Bool.{false}
use mathlib.Core.List.{map}
use lib.ListN.{take}
use Rattle.lists.specs.Padding.{padded}
use Rattle.higher.specs.Places.{is_inside_at}
use Rattle.higher.proofs.inside_at.Given as goal

abbrev pub invariant-loop-i : goal.invariant-loop-i
invariant-loop-i l = l.out ≡ padded false 14 (map (is_inside_at l.distances) (take l.i l.places))
