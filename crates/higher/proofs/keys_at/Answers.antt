-- `higher::keys_at` meets its contract: what was written is the column at the places passed.
-- Assumes nothing.
use native.Mathlib.Omega.{arith}
use mathlib.Core.Path.{refl}
use Rattle.lists.specs.Padding.{padded}
use Rattle.higher.specs.Places.{key_at}
use Rattle.higher.proofs.ColumnLaws.{column_turn, column_whole, one_below}
use Rattle.higher.proofs.keys_at.Goals as goal

pub loop-i-init : goal.loop-i-init
unfolding padded
loop-i-init c = refl

pub bounds-keys-place : goal.bounds-keys-place
bounds-keys-place c = one_below c.args.places.now c.loop-i.i c.loop-i-test.true c.requires.1

pub loop-i-preserved : goal.loop-i-preserved
loop-i-preserved c =
    column_turn (key_at c.args.keys.now) 0 c.args.places.now c.loop-i.i _ (omega (arith, c.requires.0, c.loop-i-test.true)) c.loop-i-test.true
    c.loop-i.invariant

pub returns : goal.returns
returns c = column_whole (key_at c.args.keys.now) 0 c.args.places.now _ _ c.loop-i-test.false c.loop-i.invariant
