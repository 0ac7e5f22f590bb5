-- `vertices::next_normal` meets its contract: the same key has the same normal.
-- Assumes nothing.
use Rattle.vertices.proofs.next_normal.Goals as goal

pub returns-then-key-last : goal.returns-then-key-last
returns-then-key-last c = rw c.if-key-last.true c.requires

pub returns-else-key-last : goal.returns-else-key-last
returns-else-key-last c = c.compute_normal.ensures
