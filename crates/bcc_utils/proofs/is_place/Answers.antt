-- `bcc_utils::is_place` meets its contract: each length is tested. Assumes nothing.
use Rattle.bcc_utils.proofs.is_place.Goals as goal

pub returns : goal.returns
returns c = rw (c.is_finite.ensures, c.is_finite-2.ensures, c.is_finite-3.ensures)
