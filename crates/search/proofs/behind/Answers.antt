-- `search::behind` meets its contract.
-- Assumes nothing.
use native.Mathlib.Omega.{arith}
use Rattle.search.proofs.NearbyLaws.{behind_here, behind_not_below, behind_past, behind_none}
use Rattle.search.proofs.behind.Goals as goal

pub returns-then-keys-place : goal.returns-then-keys-place
returns-then-keys-place c =
    let a = c.args in
    behind_here a.key a.keys.now a.from a.step a.low c.if-step-from.true (omega arith) c.if-keys-place.true

pub returns-else-keys-place : goal.returns-else-keys-place
returns-else-keys-place c = let a = c.args in behind_not_below a.key a.keys.now a.from a.step a.low c.if-keys-place.false

pub returns-else-place-keys : goal.returns-else-place-keys
returns-else-place-keys c = let a = c.args in behind_past a.key a.keys.now a.from a.step a.low c.if-place-keys.false

pub returns-else-step-from : goal.returns-else-step-from
returns-else-step-from c = let a = c.args in behind_none a.key a.keys.now a.from a.step a.low c.if-step-from.false
