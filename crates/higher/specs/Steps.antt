-- What the private functions promise each other.
use Rattle.std.specs.Prelude.{ℕ, ◌<◌, ◌≤◌, ◌≡◌, List, Float, length}
use Rattle.lists.specs.Lists.{◌∈◌}

-- a row of lists that have lengths of a table
pub record AtRow (ks : List ℕ) (ws : List Float) (n row : ℕ) : Type 0 where
  pub fits : n ≤ length ks
  pub weights : length ws ≡ length ks
  pub few : length ks ≤ 65536
  pub below : row < n

-- every number is below n
abbrev pub AllBelow : ℕ → List ℕ → Type 0
AllBelow n l = (i : ℕ) → i ∈ l → i < n
