-- `owning::old_voxel` meets its contract: its two cases.
-- Assumes nothing.
use Rattle.owning.specs.Runs.{old_voxel}
use Rattle.owning.proofs.old_voxel.Goals as goal

pub returns-then-stands : goal.returns-then-stands
unfolding old_voxel
returns-then-stands c = rw c.if-stands.true

pub returns-else-stands : goal.returns-else-stands
unfolding old_voxel
returns-else-stands c = rw c.if-stands.false
