-- `marched::check` meets its contract, test by test.
-- Assumes nothing.
use Rattle.std.proofs.Common.{ap, not}
use Rattle.lists.proofs.Bools.{yes, no}
use Rattle.table.specs.Table.{need}
use Rattle.marched.specs.Marched.{marched_then}
use Rattle.marched.proofs.MarchedLaws.{lengths_known}
use Rattle.marched.proofs.check.Goals as goal

pub returns-then-not-lengths_ok : goal.returns-then-not-lengths_ok
unfolding marched_then need
returns-then-not-lengths_ok c = rw (no c.lengths_ok.ensures (ap not c.if-not-lengths_ok.true))

pub table_ok-requires : goal.table_ok-requires
table_ok-requires c =
    let k = lengths_known _ _ _ (yes c.lengths_ok.ensures (ap not c.if-not-lengths_ok.false)) in
    (k.0, k.1)

pub returns-then-not-table_ok : goal.returns-then-not-table_ok
unfolding marched_then need
returns-then-not-table_ok c = rw (yes c.lengths_ok.ensures (ap not c.if-not-lengths_ok.false), no c.table_ok.ensures (ap not c.if-not-table_ok.true))

pub returns : goal.returns
unfolding marched_then need
returns c = rw (yes c.lengths_ok.ensures (ap not c.if-not-lengths_ok.false), yes c.table_ok.ensures (ap not c.if-not-table_ok.false))
