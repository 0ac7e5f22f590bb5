-- The ends of numbers that are seen one after the other.
use Rattle.std.specs.Prelude.{cond, Float}
use Rattle.std.specs.Float.Ieee.{neg, eq}
use Rattle.floats.specs.Floats.{zero32, largest, smaller_of, larger_of}
use Rattle.ends.specs.declared.Ends.{Ends}

-- before the first number: the lowest starts at the largest float, the highest at its negative
abbrev pub no_ends : Ends
no_ends = record { low = largest; high = neg largest }

-- one number more: an end keeps its earlier value unless the later is strictly beyond it
abbrev pub widened : Ends → Float → Ends
widened e x = record { low = smaller_of e.low x; high = larger_of e.high x }

-- +0 for an end that no number moved
abbrev pub unless_start : Float → Float → Float
unless_start start x = cond (eq x start) zero32 x

-- the ends as they are answered
abbrev pub lowest : Ends → Float
lowest e = unless_start largest e.low

abbrev pub highest : Ends → Float
highest e = unless_start (neg largest) e.high
