-- `gathering::skip_fours` meets its contract: the walk never passes the key's place.
use native.Mathlib.Omega.{arith}
use Rattle.gathering.proofs.Placing.{goes, not_past, place_within}
use Prim.Native.Nat.{◌+◌}
use Rattle.gathering.proofs.skip_fours.Goals as goal

pub loop-place-init : goal.loop-place-init
loop-place-init c = (
  omega (arith, c.requires.start_bound, place_within c.args.key c.args.keys.now c.args.count c.requires.count_in_bounds.0 c.requires.count_in_bounds.1),
  c.requires.start_bound,
)

pub returns-then-key-keys : goal.returns-then-key-keys
returns-then-key-keys c =
    let l = c.loop-place in record {
      upper_bound = l.invariant;
      keys_bound = λ some.
          not_past c.args.key c.args.keys.now c.args.count c.requires.count_in_bounds.0 c.requires.count_in_bounds.1 (l.place + 3) some c.if-key-keys.true;
    }

pub loop-place-preserved : goal.loop-place-preserved
loop-place-preserved c =
    let l = c.loop-place in
    let more = c.loop-place-test.true in
    let past =
    goes c.args.key c.args.keys.now c.args.count c.requires.count_in_bounds.0 c.requires.count_in_bounds.1
    (l.place + 3) more (omega (arith, c.if-key-keys.false)) in
    (omega (arith, more), omega (arith, past))
