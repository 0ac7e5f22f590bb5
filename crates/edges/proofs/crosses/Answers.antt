-- `edges::crosses` meets its contract: the test is the definition, operand by operand.
-- Assumes nothing.
use borrow.Author.Rules.{rules}
use lib.Ieee.{ne}
use Rattle.edges.specs.ZeroCrossing.{crossing}
use Rattle.edges.proofs.crosses.Goals as goal

pub returns : goal.returns
unfolding ne crossing
returns c = search rules
