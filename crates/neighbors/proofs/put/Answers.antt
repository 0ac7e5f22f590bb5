-- `neighbors::put` meets its contract: the keys in front, and zeros behind them.
use Rattle.std.proofs.lemmas.Grind.{common_steps}
use Rattle.std.proofs.Common.{arith}
use Rattle.lists.specs.Padding.{padded}
use Rattle.neighbors.proofs.put.Goals as goal

pub returns : goal.returns
unfolding padded
returns c = grind (arith, common_steps, c.fill.ensures.after (λ y e. e))
