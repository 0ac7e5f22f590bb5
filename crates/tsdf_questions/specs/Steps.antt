-- What the private functions promise each other.
use Rattle.std.specs.Prelude.{◌≤◌, ◌≡◌, true, length, take}
use Rattle.search.specs.Keys.{ascending}
use Rattle.table.specs.Table.{Table}

-- three lists of one length, at most 65,536, with n rows whose keys ascend
pub record Accepted (t : Table) : Type 0 where
  pub fits : t.count ≤ length t.keys
  pub distances : length t.distances ≡ length t.keys
  pub weights : length t.weights ≡ length t.keys
  pub small : length t.keys ≤ 65536
  pub ascends : ascending (take t.count t.keys) ≡ true
