-- `esdf_questions::step` meets its contract, by which coordinate is larger.
-- Assumes nothing.
use Rattle.esdf_questions.proofs.Answers.{step_up, step_down}
use Rattle.esdf_questions.proofs.step.Goals as goal

pub returns-then-from-to : goal.returns-then-from-to
returns-then-from-to c = step_up _ _ c.if-from-to.true

pub returns-else-from-to : goal.returns-else-from-to
returns-else-from-to c = step_down _ _ c.if-from-to.false
