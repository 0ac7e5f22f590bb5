-- `triangles::put_numbers` meets its contract: the numbers that are left say what all of them say.
-- Assumes nothing.
use lib.ListN.{drop}
use Rattle.lists.proofs.Parts.{Written}
use Rattle.triangles.proofs.put_numbers.Given as goal

abbrev pub invariant-loop-number : goal.invariant-loop-number
invariant-loop-number l = Written l.group l.at l.initial.groups (drop l.number-index l.group) l.end l.groups
