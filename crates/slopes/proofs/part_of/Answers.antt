-- `slopes::part_of` meets its contract: each arm of the test is one of the definition's.
-- Assumes nothing.
use lib.Ieee.{of_bits}
use Rattle.slopes.proofs.Working.{part_divided, part_halved}
use Rattle.slopes.proofs.part_of.Goals.{then-size, else-size}
use Rattle.slopes.proofs.part_of.Goals as goal

pub returns : goal.returns
unfolding of_bits
returns c =
    elim c.if-size.branch [
      | then-size w ↦ part_divided _ _ _ _ _ c.size.ensures c.clamp.ensures w.if-size.true w.t-is
      | else-size w ↦ part_halved _ _ _ _ _ c.size.ensures c.clamp.ensures w.if-size.false w.t-is
    ]
