-- `slopes::length` meets its contract: the root, or the squares where they have none.
-- Assumes nothing.
use Rattle.slopes.specs.Normals.{length_of}
use Rattle.slopes.proofs.Working.{rooted}
use Rattle.slopes.proofs.length.Goals as goal

pub returns : goal.returns
unfolding length_of
returns c = rooted _ _ c.unwrap_or.ensures c.root.ensures
