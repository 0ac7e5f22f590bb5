-- `cuts::single` meets its contract.
-- Assumes nothing.
use Rattle.cuts.proofs.single.Goals as goal

pub returns : goal.returns
returns c = rw (← c.vertex-a.ensures, ← c.vertex-b.ensures, ← c.vertex-c.ensures) c.ascending.ensures
