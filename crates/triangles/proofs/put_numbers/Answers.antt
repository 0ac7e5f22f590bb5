-- `triangles::put_numbers` meets its contract: the numbers that are left say what all of them say.
use lib.ListN.{drop_of_length-le}
use Rattle.lists.proofs.Parts.{written_begun, numbers_turn, written_ended, written_full}
use Rattle.triangles.proofs.put_numbers.Goals as goal

pub loop-number-init : goal.loop-number-init
loop-number-init c = written_begun _ _ _

pub loop-number-preserved : goal.loop-number-preserved
loop-number-preserved c = numbers_turn c.args.group.now _ _ c.loop-number.number-index _ _ c.loop-number-test.true c.loop-number.invariant

pub returns-after-loop-number : goal.returns-after-loop-number
returns-after-loop-number c =
    written_ended _ _ _ _ _ _ (drop_of_length-le c.args.group.now {i = c.loop-number.number-index} c.loop-number-test.false) c.loop-number.invariant

pub returns-then-groups-end : goal.returns-then-groups-end
returns-then-groups-end c = written_full _ _ _ _ _ _ c.if-groups-end.true c.loop-number.invariant
