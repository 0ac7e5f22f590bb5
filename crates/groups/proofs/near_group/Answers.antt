-- `groups::near_group` meets its contract: the others are the cell's neighbours.
-- Assumes nothing.
use Rattle.std.proofs.Common.{not}
use mathlib.Core.Path.{◌≡◌, ap}
use Rattle.lists.proofs.Bools.{yes, no}
use Rattle.lists.specs.Padding.{padded}
use Rattle.neighbors.specs.Neighbors.{neighbours}
use Rattle.neighbors.proofs.NeighborLaws.{at_most_14, cells_known}
use Rattle.groups.specs.Near.{group_in}
use Rattle.groups.proofs.CountingLaws.{pairs_known}
use Rattle.groups.proofs.near_group.Goals as goal

pub returns-then-not-pairs_ok : goal.returns-then-not-pairs_ok
unfolding group_in padded
returns-then-not-pairs_ok c = rw (no c.pairs_ok.ensures (ap not c.if-not-pairs_ok.true))

pub gather-requires : goal.gather-requires
gather-requires c =
    let cells : c.cells.result.now ≡ neighbours c.args.cell = cells_known _ c.around-near.ensures c.cells.ensures in (
      pairs_known c.args.first.now c.args.second.now c.args.count (yes c.pairs_ok.ensures (ap not c.if-not-pairs_ok.false)),
      rw cells (at_most_14 c.args.cell),
    )

pub returns : goal.returns
unfolding group_in
returns c =
    let cells : c.cells.result.now ≡ neighbours c.args.cell = cells_known _ c.around-near.ensures c.cells.ensures in
    rw (yes c.pairs_ok.ensures (ap not c.if-not-pairs_ok.false)) (rw cells at c.gather.ensures)
