-- `slopes::direction_of` meets its contract: its test is the definition's.
-- Assumes nothing.
use lib.Ieee.{of_bits}
use Rattle.slopes.proofs.Working.{has_direction, has_no_direction}
use Rattle.slopes.proofs.direction_of.Goals as goal

pub returns-then-l : goal.returns-then-l
unfolding of_bits
returns-then-l c = has_direction _ _ _ _ c.length-l.ensures c.if-l.true

pub returns-else-l : goal.returns-else-l
unfolding of_bits
returns-else-l c = has_no_direction _ _ _ _ c.length-l.ensures c.if-l.false
