-- `ids::morton_decode` meets its contract.
-- Assumes nothing.
use Rattle.ids.proofs.morton_decode.Goals as goal

pub returns : goal.returns
returns c = cc
