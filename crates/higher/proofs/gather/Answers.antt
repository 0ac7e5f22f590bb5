-- `higher::gather` meets its contract: the places gathered are those of the cells passed, from the last one down.
-- Assumes nothing.
use native.Mathlib.Omega.{arith}
use mathlib.Core.Path.{◌≡◌, refl}
use Rattle.groups.proofs.Neighbourhoods.{gather_begun, gather_roomy, gather_turn}
use Rattle.higher.specs.Places.{found_above}
use Rattle.higher.proofs.gather.Goals as goal

pub loop-i-init : goal.loop-i-init
loop-i-init c = gather_begun _ c.args.cells.now _ (omega arith)

pub with_higher-places-requires : goal.with_higher-places-requires
with_higher-places-requires c =
    (c.requires.0, gather_roomy _ c.args.cells.now _ _ c.loop-i.invariant c.loop-i-test.true c.loop-i.auto.i c.requires.1)

pub loop-i-preserved : goal.loop-i-preserved
loop-i-preserved c =
    gather_turn (found_above c.args.keys.now c.args.weights.now c.args.count c.args.row) c.args.cells.now _ _
    c.loop-i.invariant c.loop-i-test.true c.loop-i.auto.i _ _ refl c.with_higher-places.ensures

pub returns : goal.returns
returns c =
    let none : c.loop-i.i ≡ 0 = omega (arith, c.loop-i-test.false) in
    rw none at c.loop-i.invariant
