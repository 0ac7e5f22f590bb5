-- `neighbors::is_step` meets its contract: the test is the definition, operand by operand.
-- Assumes nothing.
use Rattle.neighbors.specs.Steps.{step_by}
use Rattle.neighbors.proofs.is_step.Goals as goal

pub returns : goal.returns
unfolding step_by
returns c =
    rw (
      c.is_two-3.ensures,
      c.is_two-2.ensures,
      c.is_two.ensures,
      c.is_one-3.ensures,
      c.is_one-2.ensures,
      c.is_one.ensures,
    )
