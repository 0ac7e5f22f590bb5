-- The root's answer as one number.
use Rattle.std.specs.Prelude.{Float, Ok, Err, Result}
use Rattle.refusals.specs.declared.Refusal.{Refusal}

-- the root, or y where it is refused
abbrev pub root_or : Result Float Refusal → Float → Float
root_or (Ok r) y = r
root_or (Err w) y = y
