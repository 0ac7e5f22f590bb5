-- Looking up a weight: what the search finds is read.
-- Assumes nothing.
use Rattle.std.specs.Prelude.{Some, Option}
use mathlib.Core.Path.{◌≡◌}
use mathlib.Core.List.{List}
use Prim.Native.Nat.{ℕ, ◌<◌}
use borrow.Author.Tests.{lt-ltb}
use lib.ListN.{length, get_or}
use lib.Ieee.{Float, nan}
use Rattle.rings.specs.Sides.{is_positive}
use Rattle.rings.specs.Rings.{weighted_found}

-- f is what the search says, r what it was seen to be
module _ (ws : List Float) (f r : Option ℕ) (e : r ≡ f) where
  pub here : (place : ℕ) → r ≡ Some place → place < length ws → is_positive (get_or ws place nan) ≡ weighted_found ws f
  unfolding weighted_found
  here place h l = rw (← e, h, lt-ltb place (length ws) l)
