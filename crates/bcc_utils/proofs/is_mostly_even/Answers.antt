-- `bcc_utils::is_mostly_even` meets its contract: the three parities are joined as the definition joins them. Assumes nothing.
use Rattle.bcc_utils.proofs.is_mostly_even.Goals as goal

pub returns : goal.returns
returns c = rw (c.is_even-x_even.ensures, c.is_even-y_even.ensures, c.is_even-z_even.ensures)
