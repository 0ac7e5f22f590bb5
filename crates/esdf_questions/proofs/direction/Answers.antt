-- `esdf_questions::direction` meets its contract, by the root and its test.
-- Assumes nothing.
use lib.Ieee.{of_bits}
use Rattle.esdf_questions.specs.Gradient.{unit_by}
use Rattle.esdf_questions.proofs.direction.Goals as goal

pub returns-in_default : goal.returns-in_default
unfolding unit_by
returns-in_default c = rw (← c.root.ensures, c.in_default.is)

pub returns-then-length : goal.returns-then-length
unfolding unit_by of_bits
returns-then-length c = rw (← c.root.ensures, c.in-Ok.is, c.if-length.true)

pub returns-else-length : goal.returns-else-length
unfolding unit_by of_bits
returns-else-length c = rw (← c.root.ensures, c.in-Ok.is, c.if-length.false)
