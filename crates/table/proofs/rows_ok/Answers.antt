-- `table::rows_ok` meets its contract: the rows that are left pass exactly when all do.
use Rattle.std.proofs.Common.{ap, not}
use mathlib.Core.Path.{refl, sym, ◌∙◌}
use native.Mathlib.Numerals.{add-one}
use borrow.Author.Rules.{rules}
use Rattle.lists.proofs.Bools.{yes, no}
use Rattle.table.proofs.RowLaws.{passes, fails, done}
use Rattle.table.proofs.rows_ok.Goals as goal

pub loop-i-init : goal.loop-i-init
loop-i-init c = (search rules, refl)

pub returns-then-not-row_ok : goal.returns-then-not-row_ok
returns-then-not-row_ok c =
    sym (c.loop-i.invariant.1
    ∙ fails _ _ _ _ _ _ c.requires.1 c.requires.2 c.requires.0
    c.loop-i-test.true
    (no c.row_ok.ensures (ap not c.if-not-row_ok.true)))

pub loop-i-preserved : goal.loop-i-preserved
loop-i-preserved c = (
  search rules,
  rw add-one
      (c.loop-i.invariant.1
      ∙ passes _ _ _ _ _ _ c.requires.1 c.requires.2 c.requires.0
      c.loop-i-test.true
      (yes c.row_ok.ensures (ap not c.if-not-row_ok.false))),
)

pub returns : goal.returns
returns c = sym (c.loop-i.invariant.1 ∙ done _ _ _ _ _ _ c.requires.1 c.requires.2 c.requires.0 c.loop-i-test.false)
