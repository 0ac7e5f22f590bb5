-- `cutting::cut_row` meets its contract: the higher neighbours and their sides are the definition's.
-- Assumes nothing.
use mathlib.Core.Path.{refl}
use native.Mathlib.Omega.{arith}
use lib.Ieee.{nan, lt}
use lib.ListN.{get_or}
use Rattle.floats.specs.Floats.{zero32}
use Rattle.groups.specs.CellEdges.{edges_in}
use Rattle.cutting.proofs.OwnLaws.{lent_beside, lent_fit, lent_keys, lent_sides, lent_cut}
use Rattle.cutting.proofs.cut_row.Goals as goal

pub slice_bounds-cells-end : goal.slice_bounds-cells-end
slice_bounds-cells-end c =
    let k = lent_fit _ _ _ _ c.requires.0 _ c.requires.1 _ c.higher_of-above.ensures in
    omega arith

pub slice_bounds-cut_first-end : goal.slice_bounds-cut_first-end
slice_bounds-cut_first-end c = lent_keys _ _ _ _ c.requires.0 _ c.requires.1 _ c.higher_of-above.ensures

pub slice_bounds-inside-end : goal.slice_bounds-inside-end
slice_bounds-inside-end c =
    let k = lent_fit _ _ _ _ c.requires.0 _ c.requires.1 _ c.higher_of-above.ensures in
    omega arith

pub slice_bounds-cut_first-end-2 : goal.slice_bounds-cut_first-end-2
slice_bounds-cut_first-end-2 c = lent_sides _ _ _ _ c.requires.0 _ c.requires.1 _ c.higher_of-above.ensures

pub cut_first-requires : goal.cut_first-requires
cut_first-requires c = (lent_beside _ _ _ _ c.requires.0 _ c.requires.1 _ c.higher_of-above.ensures, c.requires.2, c.requires.3, c.requires.4)

pub returns : goal.returns
returns c =
    let a = c.args in
    let es = edges_in a.first.now a.second.now a.edges in
    let side = lt (get_or a.rows.now.distances.now a.row nan) zero32 in
    let cut =
    lent_cut a.rows.now.keys.now a.rows.now.distances.now a.rows.now.weights.now a.rows.now.count c.requires.0 a.row c.requires.1 _
    c.higher_of-above.ensures es side refl in
    record {
      puts = rw (← cut) c.cut_first.ensures.puts;
      upper_bound = c.cut_first.ensures.upper_bound;
    }
