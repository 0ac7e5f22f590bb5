-- `triangles::answer` meets its contract.
-- Assumes nothing.
use Rattle.std.proofs.Common.{ap, not}
use mathlib.Core.Path.{◌≡◌, refl}
use mathlib.Core.Bool.{true, false}
use borrow.Author.Tests.{le-leb, lt-leb}
use Rattle.lists.proofs.Bools.{yes, no}
use Rattle.triangles.proofs.answer.Goals as goal

pub returns-then-not-ok : goal.returns-then-not-ok
returns-then-not-ok c = let e : c.args.ok ≡ false = no refl (ap not c.if-not-ok.true) in rw e

pub returns-then-room-filled : goal.returns-then-room-filled
returns-then-room-filled c = let e : c.args.ok ≡ true = yes refl (ap not c.if-not-ok.false) in rw (e, lt-leb _ _ c.if-room-filled.true)

pub returns : goal.returns
returns c =
    let e : c.args.ok ≡ true =
    yes refl (ap not c.if-not-ok.false) in
    rw (e, le-leb _ _ c.if-room-filled.false) c.room_for.ensures
