-- `ids::is_on_lattice` meets its contract: the lattice shows in the three lowest bits.
-- Assumes nothing.
use borrow.Author.Tests.{ne_eqb}
use Rattle.ids.proofs.KeyLaws.{lattice_by_low_bits}
use Rattle.ids.proofs.is_on_lattice.Goals as goal

pub returns-then-low-eq0 : goal.returns-then-low-eq0
returns-then-low-eq0 c = rw (lattice_by_low_bits c.args.key, c.if-low-eq0.true)

pub returns-else-low-eq0 : goal.returns-else-low-eq0
returns-else-low-eq0 c = rw (lattice_by_low_bits c.args.key, ne_eqb _ _ c.if-low-eq0.false)
