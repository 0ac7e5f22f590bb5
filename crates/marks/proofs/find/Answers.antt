-- `marks::find` meets its contract: the key stands where its search ended, or nowhere.
-- Assumes nothing.
use Rattle.marks.proofs.Keeping.{found_at, found_absent, found_outside}
use Rattle.marks.proofs.find.Goals as goal

pub returns-then-keys-place : goal.returns-then-keys-place
returns-then-keys-place c = found_at _ _ _ _ c.label-k.ensures c.halt-place.ensures c.if-keys-place.true

pub returns-else-keys-place : goal.returns-else-keys-place
returns-else-keys-place c = found_absent _ _ _ _ c.label-k.ensures c.halt-place.ensures c.if-keys-place.false

pub returns-else-place-keys : goal.returns-else-place-keys
returns-else-place-keys c = found_outside _ _ _ _ c.label-k.ensures c.halt-place.ensures c.if-place-keys.false
