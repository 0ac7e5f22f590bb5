-- `thinning::has_room` meets its contract: differences are taken where the sum would not fit a number.
-- Assumes nothing.
use mathlib.Core.Path.{refl}
use native.Mathlib.Omega.{arith}
use Rattle.thinning.proofs.Forgetting.{room_none, room_there}
use Rattle.thinning.proofs.has_room.Goals as goal

pub returns-then-places-spare : goal.returns-then-places-spare
returns-then-places-spare c =
    let a = c.args in
    room_none a.places a.rows a.waiting (omega (arith, c.if-places-spare.true))

pub returns-then-left-rows : goal.returns-then-left-rows
returns-then-left-rows c =
    let a = c.args in
    room_none a.places a.rows a.waiting (omega (arith, c.if-places-spare.false, c.if-left-rows.true))

pub returns : goal.returns
returns c =
    let a = c.args in
    room_there a.places a.rows a.waiting _ refl c.if-places-spare.false c.if-left-rows.false
