-- `slopes::vertex_of` meets its contract, axis by axis.
-- Assumes nothing.
use Rattle.slopes.proofs.Working.{vertex_is}
use Rattle.slopes.proofs.vertex_of.Goals as goal

pub returns : goal.returns
returns c =
    vertex_is _ _ _ _ _ _ _ _ _ _ _ c.part_of-t.ensures c.morton_decode-c1.ensures
    c.morton_decode-c2.ensures
    c.place_of.ensures c.place_of-2.ensures c.place_of-3.ensures
