-- What the private functions promise each other.
use Rattle.std.specs.Prelude.{ℕ, ◌≤◌, ◌≡◌, List, length}

-- three lists of equal length with n places at least
pub record Lent {A : Type 0} (xs ys zs : List A) (n : ℕ) : Type 0 where
  pub fits : n ≤ length xs
  pub second : length ys ≡ length xs
  pub third : length zs ≡ length xs
