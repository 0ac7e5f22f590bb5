-- `vectors::line_from` meets its contract: the line so far with the bytes left says what the whole says, and the place is no further than both.
-- Assumes nothing.
use Rattle.std.proofs.Common.{◌≡◌, ◌≤◌, max, length, drop}
use Rattle.vectors.specs.Vectors.{taken_from}
use Rattle.vectors.proofs.LineLaws.{taken_after}
use Rattle.vectors.proofs.line_from.Given as goal

abbrev pub invariant-loop-i : goal.invariant-loop-i
invariant-loop-i l = (l.i ≤ max l.start (length l.bytes)) × (taken_after l.line l.i (drop l.i l.bytes) ≡ taken_from l.bytes l.start)
