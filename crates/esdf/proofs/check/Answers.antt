-- `esdf::check` meets its contract: the tests of a call with a threshold.
-- Assumes nothing.
use Rattle.esdf.specs.Compute.{march_check}
use Rattle.esdf.proofs.check.Goals as goal

pub returns : goal.returns
unfolding march_check
returns c = c.check_threshold.ensures
