-- `groups::number_between` meets its contract: one of the two keys is the smaller.
-- Assumes nothing.
use Rattle.std.proofs.Common.{ap, not}
use native.Mathlib.Nat.{le_of_lt, min-eq_left, min-eq_right, max-eq_left, max-eq_right}
use Rattle.lists.proofs.Bools.{yes, no}
use Rattle.groups.specs.Near.{number_between}
use native.Mathlib.Omega.{arith}
use Rattle.groups.proofs.CountingLaws.{pairs_known}
use Rattle.groups.proofs.FoundLaws.{below_more}
use Rattle.groups.proofs.number_between.Goals as goal

pub returns-then-not-pairs_ok : goal.returns-then-not-pairs_ok
unfolding number_between
returns-then-not-pairs_ok c =
    record {
      value = rw (no c.pairs_ok.ensures (ap not c.if-not-pairs_ok.true));
      below = tt;
    }

pub edge_number-requires : goal.edge_number-requires
edge_number-requires c = pairs_known _ _ _ (yes c.pairs_ok.ensures (ap not c.if-not-pairs_ok.false))

pub edge_number-requires-else-a-b : goal.edge_number-requires-else-a-b
edge_number-requires-else-a-b c = pairs_known _ _ _ (yes c.pairs_ok.ensures (ap not c.if-not-pairs_ok.false))

pub returns-then-a-b : goal.returns-then-a-b
unfolding number_between
returns-then-a-b c =
    let l = c.if-a-b.true in
    let known = yes c.pairs_ok.ensures (ap not c.if-not-pairs_ok.false) in
    let a = c.args in
    let pairs = pairs_known a.first.now a.second.now a.count known in record {
      value = rw (known, min-eq_left (le_of_lt l), max-eq_right (le_of_lt l), ← c.place_near-place.ensures) c.edge_number.ensures.value;
      below = below_more a.count 1048576 c.edge_number.result (omega (arith, pairs.fits, pairs.few)) c.edge_number.ensures.below;
    }

pub returns-else-a-b : goal.returns-else-a-b
unfolding number_between
returns-else-a-b c =
    let l = c.if-a-b.false in
    let known = yes c.pairs_ok.ensures (ap not c.if-not-pairs_ok.false) in
    let a = c.args in
    let pairs = pairs_known a.first.now a.second.now a.count known in record {
      value = rw (known, min-eq_right l, max-eq_left l, ← c.place_near-place-else-a-b.ensures) c.edge_number-else-a-b.ensures.value;
      below = below_more a.count 1048576 c.edge_number-else-a-b.result (omega (arith, pairs.fits, pairs.few)) c.edge_number-else-a-b.ensures.below;
    }
