-- What the private readers of a line promise each other.
use Rattle.std.specs.Prelude.{ℕ, Some, None, Option}

-- the place after a number
abbrev pub end_of : Option (ℕ × ℕ) → ℕ
end_of (Some (v, at)) = at
end_of None = 0
