-- `fusing::fuse_sound` meets its contract: a table that passed has settings, lengths and keys as the calls ask.
-- Assumes nothing.
use Rattle.table.proofs.Checking.{sound}
use Rattle.fusing.proofs.fuse_sound.Goals as goal

pub admit-requires : goal.admit-requires
admit-requires c = (sound _ _ c.requires).settings

pub fuse_near-requires : goal.fuse_near-requires
fuse_near-requires c = let k = sound _ _ c.requires in record { count_value = k.lengths; keys_value = k.order }
