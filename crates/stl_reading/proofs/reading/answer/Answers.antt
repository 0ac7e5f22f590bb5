-- `stl::reading::answer` meets its contract: case by case.
-- Assumes nothing.
use Rattle.std.proofs.Common.{ap, not}
use Prim.Native.Nat.{◌*◌}
use native.Mathlib.Omega.{arith}
use mathlib.Core.Path.{refl}
use borrow.Author.Tests.{le-leb, lt-leb}
use Rattle.lists.proofs.Bools.{yes, no}
use Rattle.stl.specs.Steps.{read_answer}
use Rattle.stl_reading.proofs.reading.answer.Goals as goal

pub returns-then-not-passed : goal.returns-then-not-passed
unfolding read_answer
returns-then-not-passed c =
    let p = c.args.passed in
    rw (c.in-Ok.is, no {a = p} {t = p} refl (ap not c.if-not-passed.true))

pub returns-then-count-room : goal.returns-then-count-room
unfolding read_answer
returns-then-count-room c =
    let a = c.args in
    let n = c.in-Ok.count in
    rw (
      c.in-Ok.is,
      yes {a = a.passed} {t = a.passed} refl (ap not c.if-not-passed.false),
      le-leb (3 * n) a.room (omega (arith, c.if-count-room.true)),
    )

pub returns-else-count-room : goal.returns-else-count-room
unfolding read_answer
returns-else-count-room c =
    let a = c.args in
    let n = c.in-Ok.count in
    rw (
      c.in-Ok.is,
      yes {a = a.passed} {t = a.passed} refl (ap not c.if-not-passed.false),
      lt-leb (3 * n) a.room (omega (arith, c.if-count-room.false)),
    )

pub returns-in-Err : goal.returns-in-Err
unfolding read_answer
returns-in-Err c = rw c.in-Err.is
