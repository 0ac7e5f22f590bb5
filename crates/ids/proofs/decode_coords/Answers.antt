-- `ids::decode_coords` meets its contract.
-- Assumes nothing.
use mathlib.Core.Path.{sym, ◌∙◌}
use Rattle.ids.proofs.decode_coords.Goals as goal

pub returns-then-is_on_lattice : goal.returns-then-is_on_lattice
returns-then-is_on_lattice c = rw (sym c.is_on_lattice.ensures ∙ c.if-is_on_lattice.true, c.morton_decode-c.ensures)

pub returns-else-is_on_lattice : goal.returns-else-is_on_lattice
returns-else-is_on_lattice c = rw (sym c.is_on_lattice.ensures ∙ c.if-is_on_lattice.false)
