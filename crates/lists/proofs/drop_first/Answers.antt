-- `lists::drop_first` meets its contract: the places after the first are copied one place down.
-- Assumes nothing.
use Rattle.lists.proofs.Lowering.{dropped}
use Rattle.lists.proofs.drop_first.Goals as goal

pub returns-then-count-list : goal.returns-then-count-list
returns-then-count-list g c = rw c.copy_within.ensures.after (dropped c.args.list.now c.args.count c.args.value c.if-count-gt0.true c.if-count-list.true)
