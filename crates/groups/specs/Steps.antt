-- What the private functions promise each other.
use Rattle.std.specs.Prelude.{ℕ, ◌<◌, ◌≤◌, ◌≡◌, List, length, Some, None, Option}

-- two lists of edges that refusal 2 lets pass
pub record Pairs (first second : List ℕ) (count : ℕ) : Type 0 where
  pub fits : count ≤ length first
  pub equal : length second ≡ length first
  pub few : length first ≤ 1048576

-- what was found is the number of one of n edges
abbrev pub Below : ℕ → Option ℕ → Type 0
Below n (Some i) = i < n
Below n None = Unit
