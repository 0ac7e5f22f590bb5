-- `groups::count_ends` meets its contract: what is left of the edges says what all of them say.
-- Assumes nothing.
use Rattle.std.specs.Iterator.Adapters.{zip_first, zip_second}
use Rattle.std.specs.Slice.Iter.{iter_rest}
use Rattle.groups.specs.CellEdges.{edges_in}
use Rattle.groups.proofs.CountingLaws.{Counting}
use Rattle.groups.proofs.count_ends.Given as goal

abbrev pub invariant-loop-a : goal.invariant-loop-a
invariant-loop-a l =
    Counting l.cell l.count (edges_in l.first l.second l.count) l.below l.here (iter_rest (zip_first l.a-iterator)) (iter_rest (zip_second l.a-iterator))
