-- `slopes::mean_of` meets its contract: its test is the definition's.
-- Assumes nothing.
use mathlib.Core.Path.{◌∙◌}
use lib.Ieee.{of_bits}
use Rattle.slopes.proofs.Working.{mean_none, mean_some}
use Rattle.slopes.proofs.mean_of.Goals as goal

pub returns-then-sum-eq0 : goal.returns-then-sum-eq0
unfolding of_bits
returns-then-sum-eq0 c = mean_none _ c.if-sum-eq0.true

pub returns : goal.returns
returns c = c.direction_of.ensures ∙ mean_some _ c.if-sum-eq0.false
