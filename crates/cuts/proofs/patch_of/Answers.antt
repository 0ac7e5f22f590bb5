-- `cuts::patch_of` meets its contract: each kind of cut has its own function.
-- Assumes nothing.
use Rattle.cuts.specs.Patches.{patch_by}
use Rattle.cuts.proofs.patch_of.Goals as goal

pub returns-in-Nothing : goal.returns-in-Nothing
unfolding patch_by
returns-in-Nothing c = rw (← c.cut_four.ensures, c.in-Nothing.is)

pub returns-in-One : goal.returns-in-One
unfolding patch_by
returns-in-One c = rw (← c.cut_four.ensures, c.in-One.is, ← c.single-t.ensures)

pub returns-in-Two : goal.returns-in-Two
returns-in-Two c = rw (← c.cut_four.ensures, c.in-Two.is) c.double.ensures
