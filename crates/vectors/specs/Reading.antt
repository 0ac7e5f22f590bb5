-- The lines of some bytes, one after the other.
use Rattle.std.specs.Prelude.{Option, MatchOption, ◌≡◌, ◌≤◌, length}
use Rattle.vectors.specs.declared.Line.{Line}
use Rattle.vectors.specs.declared.Lines.{Lines}
use Rattle.vectors.specs.Vectors.{taken_from}

-- the next line is the one that begins at the place, and the place after it is where the lines go on; where no byte is left there is none, and the place
-- stays
abbrev pub NextLine : Lines → Option Line → Lines → Type 0
NextLine before next after =
    MatchOption next ((length before.bytes.now ≤ before.place) × (after.place ≡ before.place))
    (λ line. taken_from before.bytes.now before.place ≡ record { line = line; next = after.place })
    × (after.bytes ≡ before.bytes)
