-- `gathering::locate` meets its contract: the first i own keys have their seats, and the next one is at the place or past it.
use Prim.Native.Nat.{ℕ, ◌<◌}
use mathlib.Core.Path.{refl, ◌∙◌}
use native.Mathlib.Omega.{arith}
use lib.ListN.{take, length-set}
use Rattle.gathering.specs.Gathering.{seat_of}
use Rattle.gathering.proofs.Filling.{filled_more}
use Rattle.gathering.proofs.Placing.{first_start, next_start}
use borrow.Author.Rules.{rules}
use Rattle.gathering.proofs.locate.Goals as goal

pub loop-i-init : goal.loop-i-init
loop-i-init c = (
  search rules,
  refl,
  refl,
  λ some. rw c.first_place-place.ensures
      (first_start (take c.args.count c.args.keys.now) c.args.own_keys.now c.args.own
      c.requires.own_in_bounds.0 c.requires.own_in_bounds.2 c.requires.count_in_bounds.2 some),
)

pub loop-i-preserved : goal.loop-i-preserved
loop-i-preserved c =
    let l = c.loop-i in
    let more : l.i < c.args.own = c.loop-i-test.true in (
      omega (arith, more),
      filled_more (λ (k : ℕ). seat_of k (take c.args.count c.args.keys.now)) 0 c.args.own_keys.now l.seats l.i
          c.seat_at.result c.seat_at.ensures (omega (arith, more, c.requires)) (omega (arith, more, c.requires, l.invariant.2)) l.invariant.1,
      length-set l.seats l.i c.seat_at.result ∙ l.invariant.2,
      next_start (take c.args.count c.args.keys.now) c.args.own_keys.now c.args.own c.requires.own_in_bounds.0 c.requires.own_in_bounds.2 l.i _
          c.place_past-place.ensures,
    )
