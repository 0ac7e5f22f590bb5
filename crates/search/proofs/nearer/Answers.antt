-- `search::nearer` meets its contract.
-- Assumes nothing.
use native.Mathlib.Omega.{arith}
use Rattle.search.proofs.NearbyLaws.{nearer_here, nearer_below, nearer_past}
use Rattle.search.proofs.nearer.Goals as goal

pub returns-then-key-keys : goal.returns-then-key-keys
returns-then-key-keys c =
    let a = c.args in
    nearer_here a.key a.keys.now a.from a.step a.end (omega arith) c.if-key-keys.true

pub returns-else-key-keys : goal.returns-else-key-keys
returns-else-key-keys c =
    let a = c.args in
    nearer_below a.key a.keys.now a.from a.step a.end c.if-key-keys.false

pub returns-else-step-keys : goal.returns-else-step-keys
returns-else-step-keys c = let a = c.args in nearer_past a.key a.keys.now a.from a.step a.end (omega arith)

pub returns-else-from-keys : goal.returns-else-from-keys
returns-else-from-keys c = let a = c.args in nearer_past a.key a.keys.now a.from a.step a.end (omega arith)
