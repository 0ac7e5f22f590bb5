-- `higher::keys_at` meets its contract: what was written is the column at the places passed.
-- Assumes nothing.
use mathlib.Core.Path.{◌≡◌}
use mathlib.Core.List.{map}
use lib.ListN.{take}
use Rattle.lists.specs.Padding.{padded}
use Rattle.higher.specs.Places.{key_at}
use Rattle.higher.proofs.keys_at.Given as goal

abbrev pub invariant-loop-i : goal.invariant-loop-i
invariant-loop-i l = l.out ≡ padded 0 14 (map (key_at l.keys) (take l.i l.places))
