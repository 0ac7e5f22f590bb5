-- `gathering::slide` meets its contract: before each turn what stood from i up stands from the place up, in each column by one law.
use Prim.Native.Nat.{◌<◌, ◌≤◌}
use mathlib.Core.Path.{◌≡◌, refl, sym}
use native.Mathlib.Omega.{arith}
use lib.Ieee.{nan}
use lib.ListN.{length-set}
use Rattle.gathering.proofs.Sliding.{none_slid, stays, turn}
use borrow.Author.Rules.{rules}
use Rattle.gathering.proofs.slide.Goals as goal

pub returns-then-end-to : goal.returns-then-end-to
returns-then-end-to c =
    let h = c.requires.from_le_end.0 in
    let e = c.if-end-to.true in record {
      end_value = omega arith;
      keys_after = stays 0 _ _ _ _ h e;
      distances_after = stays nan _ _ _ _ h e;
      weights_after = stays nan _ _ _ _ h e;
    }

pub loop-i-init : goal.loop-i-init
loop-i-init c =
    let s = c.args in (
      search rules,
      search rules,
      refl,
      refl,
      refl,
      refl,
      sym (none_slid 0 s.keys.now s.end s.to),
      sym (none_slid nan s.distances.now s.end s.to),
      sym (none_slid nan s.weights.now s.end s.to),
    )

pub loop-i-preserved : goal.loop-i-preserved
loop-i-preserved c =
    let l = c.loop-i in
    let more : c.args.from < l.i = c.loop-i-test.true in
    let some : 0 < l.i = omega (arith, more) in
    let up : l.i ≤ l.place = omega (arith, l.invariant.2, c.requires) in
    let below : l.place ≤ c.args.to = omega (arith, l.invariant.1, l.invariant.2) in (
      omega (arith, more),
      omega (arith, l.invariant.1),
      omega (arith, more, l.invariant.2),
      simp length-set l.invariant.3,
      simp length-set l.invariant.4,
      simp length-set l.invariant.5,
      turn 0 _ _ l.place l.i c.args.end c.args.to some up l.invariant.1 (omega (arith, below, c.requires)) (omega (arith, c.requires)) l.invariant.6,
      turn nan _ _ l.place l.i c.args.end c.args.to some up l.invariant.1 (omega (arith, below, c.requires)) (omega (arith, c.requires)) l.invariant.7,
      turn nan _ _ l.place l.i c.args.end c.args.to some up l.invariant.1 (omega (arith, below, c.requires)) (omega (arith, c.requires)) l.invariant.8,
    )

pub returns : goal.returns
returns c =
    let l = c.loop-i in
    let e : l.i ≡ c.args.from = omega (arith, c.loop-i-test.false, l.invariant.0) in record {
      end_value = rw e at l.invariant.2;
      keys_after = rw e at l.invariant.6;
      distances_after = rw e at l.invariant.7;
      weights_after = rw e at l.invariant.8;
    }
