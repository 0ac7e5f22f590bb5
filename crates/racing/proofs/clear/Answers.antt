-- `racing::clear` meets its contract: each list is cleared.
-- Assumes nothing.
use Rattle.racing.proofs.clear.Goals as goal

pub returns : goal.returns
returns c =
    record {
      keys_after = c.clear.ensures;
      distances_after = c.clear-2.ensures;
      estimates_after = c.clear-3.ensures;
      cells_after = c.clear-4.ensures;
    }
