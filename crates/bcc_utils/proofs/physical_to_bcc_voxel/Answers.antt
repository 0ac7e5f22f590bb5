-- `bcc_utils::physical_to_bcc_voxel` meets its contract: each branch is one of the definition's. Assumes nothing.
use Rattle.bcc_utils.specs.Metres.{voxel_of}
use Rattle.bcc_utils.proofs.physical_to_bcc_voxel.Goals as goal

pub returns-then-is_place : goal.returns-then-is_place
unfolding voxel_of
returns-then-is_place c =
    rw (
      c.snap_place.ensures,
      ← c.positive_to.ensures,
      c.if-positive_to.true,
      ← c.is_place.ensures,
      c.if-is_place.true,
    )

pub returns-else-is_place : goal.returns-else-is_place
unfolding voxel_of
returns-else-is_place c = rw (← c.positive_to.ensures, c.if-positive_to.true, ← c.is_place.ensures, c.if-is_place.false)

pub returns-else-positive_to : goal.returns-else-positive_to
unfolding voxel_of
returns-else-positive_to c = rw (← c.positive_to.ensures, c.if-positive_to.false)
