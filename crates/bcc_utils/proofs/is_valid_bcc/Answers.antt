-- `bcc_utils::is_valid_bcc` meets its contract: the three parities are compared as the definition compares them. Assumes nothing.
use Rattle.bcc_utils.specs.Snapping.{on_lattice}
use Rattle.bcc_utils.proofs.is_valid_bcc.Goals as goal

pub returns : goal.returns
unfolding on_lattice
returns c = rw (c.is_even-x_even.ensures, c.is_even-y_even.ensures, c.is_even-z_even.ensures)
