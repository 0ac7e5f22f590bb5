-- `lines::hex_from` meets its contract. The loop's invariant: the digits that are left, after those read, say what all say.
-- Assumes nothing.
use Prim.Native.Nat.{◌+◌, ◌-◌, ◌^◌, ◌<◌}
use mathlib.Core.Path.{◌≡◌}
use Rattle.lines.specs.Lines.{hex_from}
use Rattle.lines.proofs.hex_from.Given as goal

abbrev pub invariant-loop-i : goal.invariant-loop-i
invariant-loop-i l = (l.bits < 16 ^ l.i) × (hex_from 8 l.line l.at 0 ≡ hex_from (8 - l.i) l.line (l.at + l.i) l.bits)
