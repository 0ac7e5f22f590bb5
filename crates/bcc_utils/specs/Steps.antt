-- What the private functions promise each other.
use Rattle.std.specs.Prelude.{Bool, ◌&&◌, ◌||◌, ℤ}
use Rattle.bcc_utils.specs.Snapping.{even}

-- two of three hold
abbrev pub most_of : Bool → Bool → Bool → Bool
most_of a b c = (a && b) || (b && c) || (a && c)

-- two or three of the coordinates are even
abbrev pub mostly_even : ℤ → ℤ → ℤ → Bool
mostly_even x y z = most_of (even x) (even y) (even z)
