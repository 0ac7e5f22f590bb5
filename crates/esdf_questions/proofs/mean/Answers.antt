-- `esdf_questions::mean` meets its contract: its test is the definition's.
-- Assumes nothing.
use mathlib.Core.Path.{◌∙◌}
use Rattle.esdf_questions.proofs.Answers.{mean_none, mean_some}
use Rattle.esdf_questions.proofs.mean.Goals as goal

pub returns-then-sum-eq0 : goal.returns-then-sum-eq0
returns-then-sum-eq0 c = mean_none _ c.if-sum-eq0.true

pub returns : goal.returns
returns c = c.direction.ensures ∙ mean_some _ c.if-sum-eq0.false
