-- `gathering::hold_back` meets its contract: the first i own rows that do not stand wait.
use Prim.Native.Nat.{◌<◌}
use mathlib.Core.Path.{refl, ◌∙◌}
use native.Mathlib.Omega.{arith}
use lib.ListN.{length-set}
use Rattle.gathering.specs.Gathering.{held_back}
use Rattle.gathering.proofs.Filling.{one_held}
use borrow.Author.Rules.{rules}
use Rattle.gathering.proofs.hold_back.Goals as goal

pub loop-i-init : goal.loop-i-init
unfolding held_back
loop-i-init c = (search rules, refl, refl)

pub loop-i-preserved : goal.loop-i-preserved
loop-i-preserved c =
    let l = c.loop-i in
    let more : l.i < c.args.own = c.loop-i-test.true in (
      omega (arith, more),
      one_held c.args.most c.args.own_weights.now c.args.seats.now l.seats l.i (omega (arith, more, c.requires)) l.invariant.1
          c.between-stands.result c.between-stands.ensures c.seat_if.result c.seat_if.ensures,
      length-set l.seats l.i c.seat_if.result ∙ l.invariant.2,
    )
