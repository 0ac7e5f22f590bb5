-- `groups::edge_lists_ok` meets its contract.
-- Assumes nothing.
use mathlib.Core.Path.{ap}
use mathlib.Core.Bool.{Bool, ◌&&◌}
use lib.Dec.{leb}
use Rattle.groups.proofs.edge_lists_ok.Goals as goal

pub returns : goal.returns
returns c = ap (λ (b : Bool). leb c.args.groups 1048576 && b) c.pairs_ok.ensures
