-- `surfaces::mesh_stats` meets its contract: the lengths are tested, then the normals are looked at.
-- Assumes nothing.
use Rattle.std.proofs.Common.{ap, not}
use Rattle.lists.proofs.Bools.{yes, no}
use Rattle.surfaces.specs.Stats.{stats_answer}
use Rattle.corners.proofs.Sets.{lent}
use Rattle.surfaces.proofs.mesh_stats.Goals as goal

pub returns-then-not-is_ok : goal.returns-then-not-is_ok
unfolding stats_answer
returns-then-not-is_ok c = rw (no c.is_ok.ensures (ap not c.if-not-is_ok.true))

pub all_none-requires : goal.all_none-requires
all_none-requires c = lent _ _ _ _ (yes c.is_ok.ensures (ap not c.if-not-is_ok.false))

pub returns : goal.returns
unfolding stats_answer
returns c = rw (yes c.is_ok.ensures (ap not c.if-not-is_ok.false), c.all_none.ensures)
