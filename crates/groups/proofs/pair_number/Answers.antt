-- `groups::pair_number` meets its contract: one of the two keys is the smaller.
-- Assumes nothing.
use native.Mathlib.Nat.{le_of_lt, min-eq_left, min-eq_right, max-eq_left, max-eq_right}
use Rattle.groups.proofs.NumberLaws.{number_found}
use Rattle.groups.proofs.pair_number.Goals as goal

pub returns-then-cell-other : goal.returns-then-cell-other
returns-then-cell-other c =
    let l = c.if-cell-other.true in
    let a = c.args in record {
      value = rw (min-eq_left (le_of_lt l), max-eq_right (le_of_lt l))
          (number_found a.first.now a.second.now a.count a.cell a.other c.requires.0.equal _ c.requires.1 _ c.edge_number.ensures.value);
      below = c.edge_number.ensures.below;
    }

pub returns-else-cell-other : goal.returns-else-cell-other
returns-else-cell-other c =
    let l = c.if-cell-other.false in
    let a = c.args in record {
      value = rw (min-eq_right l, max-eq_left l)
          (number_found a.first.now a.second.now a.count a.other a.cell c.requires.0.equal _ c.place_of-place.ensures _
          c.edge_number-else-cell-other.ensures.value);
      below = c.edge_number-else-cell-other.ensures.below;
    }
