-- `gathering::walk_from` meets its contract: the walk never passes the key's place.
use native.Mathlib.Omega.{arith}
use Rattle.gathering.proofs.Placing.{goes, stops, ends}
use Rattle.gathering.proofs.walk_from.Goals as goal

pub returns-then-key-keys : goal.returns-then-key-keys
returns-then-key-keys c =
    stops c.args.key c.args.keys.now c.args.count c.requires.count_in_bounds.0 c.requires.count_in_bounds.1 _
    c.loop-place-test.true c.if-key-keys.true c.loop-place.invariant

pub loop-place-preserved : goal.loop-place-preserved
loop-place-preserved c =
    omega (
      arith,
      goes c.args.key c.args.keys.now c.args.count c.requires.count_in_bounds.0 c.requires.count_in_bounds.1
          c.loop-place.place c.loop-place-test.true (omega (arith, c.if-key-keys.false)),
    )

pub returns : goal.returns
returns c =
    ends c.args.key c.args.keys.now c.args.count c.requires.count_in_bounds.0 c.requires.count_in_bounds.1 c.args.count (omega arith)
    (omega (arith, c.loop-place-test.false, c.loop-place.invariant))
