-- `lists::clear_from` meets its contract: the places passed hold the value.
-- Assumes nothing.
use Rattle.std.proofs.Common.{◌≡◌, replicate}
use lib.Seq.{paste}
use Rattle.lists.proofs.clear_from.Given as goal

abbrev pub invariant-loop-place : goal.invariant-loop-place
invariant-loop-place g l = l.place-items ≡ paste l.initial.place-items 0 (replicate l.place-index l.value) l.place-index
