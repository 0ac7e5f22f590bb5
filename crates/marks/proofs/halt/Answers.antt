-- `marks::halt` meets its contract: it is the first search, or the second where the first found nothing.
-- Assumes nothing.
use native.Mathlib.Omega.{arith}
use Rattle.marks.proofs.Pathing.{home_within}
use Rattle.marks.proofs.Seeking.{halt_straight, halt_around}
use Rattle.marks.proofs.halt.Goals as goal

pub returns-then-first-keys : goal.returns-then-first-keys
returns-then-first-keys c = halt_straight _ _ _ _ c.home-start.ensures c.seek-first.ensures c.if-first-keys.true

pub seek-requires : goal.seek-requires
seek-requires c = (omega arith, rw c.home-start.ensures (home_within _ _))

pub seek-first-requires : goal.seek-first-requires
seek-first-requires c = (rw c.home-start.ensures (home_within _ _), omega arith)

pub returns : goal.returns
returns c = halt_around _ _ _ _ c.home-start.ensures c.seek-first.ensures _ c.if-first-keys.false c.seek.ensures
