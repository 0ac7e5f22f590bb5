-- `lines::digits_from` meets its contract. The loop's invariant: the digits that are left, after those read, say what all say.
-- Assumes nothing.
use Prim.Native.Nat.{◌+◌, ◌-◌, ◌^◌, ◌<◌}
use mathlib.Core.Path.{◌≡◌}
use Rattle.lines.specs.Lines.{digits_from}
use Rattle.lines.proofs.digits_from.Given as goal

abbrev pub invariant-loop-i : goal.invariant-loop-i
invariant-loop-i l = (l.value < 10 ^ l.i) × (digits_from 5 l.line l.at 0 ≡ digits_from (5 - l.i) l.line (l.at + l.i) l.value)
