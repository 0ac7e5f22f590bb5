-- `rings::shares` meets its contract: what is left of the cells says what all of them say.
use Rattle.rings.proofs.LoopLaws.{found, passed, ended}
use Rattle.rings.proofs.shares.Goals as goal

pub returns-then-is_beside_both : goal.returns-then-is_beside_both
returns-then-is_beside_both c =
    found _ _ _ _ c.loop-fourth.invariant c.loop-fourth-test.true _ c.is_beside_both.ensures c.if-is_beside_both.true

pub loop-fourth-preserved : goal.loop-fourth-preserved
loop-fourth-preserved c =
    passed _ _ _ _ c.loop-fourth.invariant c.loop-fourth-test.true _ c.is_beside_both.ensures c.if-is_beside_both.false

pub returns : goal.returns
returns c = ended _ _ _ _ c.loop-fourth.invariant c.loop-fourth-test.false
