-- `rings::is_joint` meets its contract: what is left of the neighbours says what all of them say.
use Rattle.neighbors.proofs.NeighborLaws.{cells_known}
use Rattle.rings.specs.Rings.{joint_by}
use Rattle.rings.proofs.LoopLaws.{found, passed, ended}
use Rattle.rings.proofs.is_joint.Goals as goal

pub loop-third-init : goal.loop-third-init
unfolding joint_by
loop-third-init c = rw (cells_known c.args.cell c.around-around.ensures c.cells-cells.ensures)

pub returns-then-completes : goal.returns-then-completes
returns-then-completes c = found _ _ _ _ c.loop-third.invariant c.loop-third-test.true _ c.completes.ensures c.if-completes.true

pub loop-third-preserved : goal.loop-third-preserved
loop-third-preserved c = passed _ _ _ _ c.loop-third.invariant c.loop-third-test.true _ c.completes.ensures c.if-completes.false

pub returns : goal.returns
returns c = ended _ _ _ _ c.loop-third.invariant c.loop-third-test.false
