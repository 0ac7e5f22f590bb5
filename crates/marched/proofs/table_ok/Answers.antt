-- `marched::table_ok` meets its contract: its tests are what the calls ensure.
-- Assumes nothing.
use Rattle.lists.proofs.Bools.{and_eq}
use Rattle.marched.proofs.table_ok.Goals as goal

pub returns : goal.returns
returns c = and_eq c.rows_ok.ensures c.keys_ascend.ensures
