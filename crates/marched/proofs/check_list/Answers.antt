-- `marched::check_list` meets its contract, test by test.
-- Assumes nothing.
use Rattle.std.proofs.Common.{ap, not}
use mathlib.Core.Path.{refl}
use Rattle.lists.proofs.Bools.{yes, no}
use Rattle.table.specs.Table.{need}
use Rattle.marched.specs.Marched.{list_check}
use Rattle.marched.proofs.MarchedLaws.{lengths_known}
use Rattle.marched.proofs.check_list.Goals as goal

pub returns-then-not-lengths_ok : goal.returns-then-not-lengths_ok
unfolding list_check need
returns-then-not-lengths_ok c = rw (no c.lengths_ok.ensures (ap not c.if-not-lengths_ok.true))

pub returns-then-not-fit : goal.returns-then-not-fit
unfolding list_check need
returns-then-not-fit c =
    rw (
      yes c.lengths_ok.ensures (ap not c.if-not-lengths_ok.false),
      no {a = c.args.fit} refl (ap not c.if-not-fit.true),
    )

pub table_ok-requires : goal.table_ok-requires
table_ok-requires c =
    let k = lengths_known _ _ _ (yes c.lengths_ok.ensures (ap not c.if-not-lengths_ok.false)) in
    (k.0, k.1)

pub returns-then-not-table_ok : goal.returns-then-not-table_ok
unfolding list_check need
returns-then-not-table_ok c =
    rw (
      yes c.lengths_ok.ensures (ap not c.if-not-lengths_ok.false),
      yes {a = c.args.fit} refl (ap not c.if-not-fit.false),
      no c.table_ok.ensures (ap not c.if-not-table_ok.true),
    )

pub returns-then-not-is_finite : goal.returns-then-not-is_finite
unfolding list_check need
returns-then-not-is_finite c =
    rw (
      yes c.lengths_ok.ensures (ap not c.if-not-lengths_ok.false),
      yes {a = c.args.fit} refl (ap not c.if-not-fit.false),
      yes c.table_ok.ensures (ap not c.if-not-table_ok.false),
      no c.is_finite.ensures (ap not c.if-not-is_finite.true),
    )

pub returns : goal.returns
unfolding list_check need
returns c =
    rw (
      yes c.lengths_ok.ensures (ap not c.if-not-lengths_ok.false),
      yes {a = c.args.fit} refl (ap not c.if-not-fit.false),
      yes c.table_ok.ensures (ap not c.if-not-table_ok.false),
      yes c.is_finite.ensures (ap not c.if-not-is_finite.false),
    )
