-- `esdf_surveys::tally_with` meets its contract, by the sign.
-- Assumes nothing.
use lib.Ieee.{of_bits}
use Rattle.esdf_surveys.proofs.Answers.{tally_more}
use Rattle.esdf_surveys.proofs.tally_with.Goals as goal

pub returns : goal.returns
unfolding of_bits
returns c = rw (c.from.ensures, c.from-2.ensures, c.with.ensures) (tally_more c.args.tally c.args.distance)
