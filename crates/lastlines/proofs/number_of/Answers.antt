-- `lastlines::number_of` meets its contract: the bits of a NaN are those whose float is one.
-- Assumes nothing.
use Rattle.std.proofs.Common.{◌≡◌, arith}
use Rattle.std.specs.Float.{binary32}
use lib.Ieee.{nan_bits, is_nan, of_bits}
use lib.Ieee.Bits.{nan_bits_is}
use Rattle.lastlines.specs.Lastcheck.{given_of}
use Rattle.lastlines.proofs.number_of.Goals as goal

pub returns : goal.returns
unfolding given_of
returns c =
    let b = c.args.bits in
    let test : nan_bits binary32 b ≡ is_nan (of_bits binary32 b) = nan_bits_is binary32 b in
    grind arith
