-- `floats::is_finite` meets its contract: a finite value lies between the infinities. Assumes nothing.
use Rattle.std.proofs.Common.{sym}
use lib.Ieee.{neg, of_bits, nan_bits}
use Rattle.floats.proofs.Signs.{finite_is}
use Rattle.floats.proofs.is_finite.Goals as goal

pub float_from_bits-infinity : goal.float_from_bits-infinity
unfolding nan_bits
float_from_bits-infinity c = tt

pub returns : goal.returns
unfolding of_bits neg
returns c = sym (finite_is c.args.x)
