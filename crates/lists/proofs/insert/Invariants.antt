-- `lists::insert` meets its contract: before each turn the places from i up have moved.
-- Assumes nothing.
use Rattle.std.proofs.Common.{◌≡◌, ◌≤◌, length}
use Rattle.lists.proofs.Shifting.{moved}
use Rattle.lists.proofs.insert.Given as goal

abbrev pub invariant-loop-i : goal.invariant-loop-i
invariant-loop-i g l = (l.place ≤ l.i) × (l.i ≤ l.count) × (l.list ≡ moved l.value l.initial.list l.count l.i) × (length l.list ≡ length l.initial.list)
