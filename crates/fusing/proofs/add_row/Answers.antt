-- `fusing::add_row` meets its contract: the three lists open a place for the new row.
-- Assumes nothing.
use Rattle.std.proofs.Common.{ap, not}
use Rattle.lists.proofs.Bools.{yes, no}
use Rattle.fusing.proofs.Storing.{no_place, too_large_new, added}
use Rattle.fusing.proofs.add_row.Goals as goal

pub returns-then-keys-n-clause-table_after : goal.returns-then-keys-n-clause-table_after
returns-then-keys-n-clause-table_after c = no_place _ _ _ _ _ _ _ c.requires.keys_value_2 c.if-keys-n.true

pub returns-then-not-within-clause-table_after : goal.returns-then-not-within-clause-table_after
returns-then-not-within-clause-table_after c =
    too_large_new _ _ _ _ _ _ _ c.requires.keys_value_2 c.if-keys-n.false _
    c.fused_voxel-v.ensures (no c.within.ensures (ap not c.if-not-within.true))

pub returns-clause-table_after : goal.returns-clause-table_after
returns-clause-table_after c =
    added _ _ _ _ _ _ _ c.requires.keys_value_2 c.if-keys-n.false _
    c.fused_voxel-v.ensures (yes c.within.ensures (ap not c.if-not-within.false)) c.requires.count_value
    c.requires.keys_value
    _ c.place_of-place.ensures _ _ _ c.insert.ensures c.insert-2.ensures c.insert-3.ensures
