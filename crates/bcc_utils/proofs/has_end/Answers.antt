-- `bcc_utils::has_end` meets its contract: each coordinate is tested for an end. Assumes nothing.
use Rattle.bcc_utils.proofs.has_end.Goals as goal

pub returns : goal.returns
returns c = rw (c.is_end.ensures, c.is_end-2.ensures, c.is_end-3.ensures)
