-- `marched::row_ok` meets its contract: its tests are what the calls ensure.
-- Assumes nothing.
use Rattle.marched.proofs.row_ok.Goals as goal

pub returns : goal.returns
returns c = cc
