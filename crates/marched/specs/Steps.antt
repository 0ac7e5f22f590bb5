-- What the private functions promise each other.
use Rattle.std.specs.Prelude.{ℕ, ◌≤◌, ◌≡◌, true, List, length, take, Float}
use Rattle.search.specs.Keys.{ascending}
use Rattle.marched.specs.Marched.{MarchedTable}

-- two lists of one length, with n rows whose keys ascend
pub record Accepted (t : MarchedTable) : Type 0 where
  pub fits : t.count ≤ length t.keys
  pub distances : length t.distances ≡ length t.keys
  pub ascends : ascending (take t.count t.keys) ≡ true
