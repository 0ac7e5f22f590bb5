-- `texts::put_decimal` meets its contract. The loop's invariant: the digits put in stand behind those that are left.
-- Assumes nothing.
use Prim.Native.Nat.{suc, ◌<◌, ◌^◌}
use mathlib.Core.Path.{◌≡◌}
use lib.ListN.{length, drop}
use Rattle.texts.specs.Texts.{decimal, decimal_from}
use Rattle.texts.proofs.put_decimal.Given as goal

abbrev pub invariant-loop-rest : goal.invariant-loop-rest
invariant-loop-rest l =
    (l.start < 20) × (l.rest < 10 ^ suc l.start) × (length l.digits ≡ 20)
    × (decimal l.number ≡ decimal_from (suc l.start) l.rest (drop (suc l.start) l.digits))

abbrev pub decreases-loop-rest : goal.decreases-loop-rest
decreases-loop-rest l = l.start
