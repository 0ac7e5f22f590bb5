-- `racing::unlabel` meets its contract, by its tests.
-- Assumes nothing.
use Rattle.racing.proofs.Finishing.{unlabel_none, unlabel_other, unlabel_one}
use Rattle.racing.proofs.unlabel.Goals as goal

pub returns-then-keys-eq1 : goal.returns-then-keys-eq1
returns-then-keys-eq1 c = unlabel_one _ c.if-keys-gt0.true c.if-keys-eq1.true

pub returns-else-keys-eq1 : goal.returns-else-keys-eq1
returns-else-keys-eq1 c = unlabel_other _ c.if-keys-eq1.false

pub returns-else-keys-gt0 : goal.returns-else-keys-gt0
returns-else-keys-gt0 c = unlabel_none _ c.if-keys-gt0.false
