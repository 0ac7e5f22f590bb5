-- `stl::reading::put_three` meets its contract: place by place.
-- Assumes nothing.
use Prim.Native.Nat.{suc, ◌+◌}
use native.Mathlib.Omega.{arith}
use mathlib.Core.Path.{◌≡◌}
use borrow.Author.Tests.{le-leb, lt-leb}
use lib.ListN.{length-set}
use Rattle.stl_reading.proofs.reading.put_three.Goals as goal

pub bounds-list-at-then-at-list : goal.bounds-list-at-then-at-list
bounds-list-at-then-at-list c = simp length-set (omega (arith, c.if-at-list.true))

pub bounds-list-at-then-at-list-2 : goal.bounds-list-at-then-at-list-2
bounds-list-at-then-at-list-2 c = simp length-set (omega (arith, c.if-at-list.true))

pub returns-then-at-list : goal.returns-then-at-list
returns-then-at-list c =
    let at = c.args.at in
    let one : at + 1 ≡ suc at = omega arith in
    let two : at + 2 ≡ suc (suc at) = omega arith in
    rw (
      le-leb (at + 3) _ c.if-at-list.true,
      one,
      two,
      c.float_of_pattern.ensures,
      c.float_of_pattern-then-at-list.ensures,
      c.float_of_pattern-then-at-list-2.ensures,
    )

pub returns-else-at-list : goal.returns-else-at-list
returns-else-at-list c = rw (lt-leb _ _ c.if-at-list.false)
