-- A loop that looks for one that passes: what is left of the list says what the whole says, and a turn is one unfolding.
-- Assumes nothing.
use Prim.Native.Nat.{ℕ, ◌+◌, ◌≤◌, ◌<◌}
use native.Mathlib.Numerals.{add-one}
use mathlib.Core.Path.{◌≡◌}
use mathlib.Core.Bool.{Bool, true, false}
use mathlib.Core.List.{List}
use lib.ListN.{length, get_or, drop, drop_of_length-le}
use lib.Seq.{drop-cons}
use Rattle.rings.specs.Rings.{any}

-- of l, those from i on say `whole`
module _ (f : ℕ → Bool) (l : List ℕ) (i : ℕ) (whole : Bool) (says : whole ≡ any f (drop i l)) where
  -- the one at i was asked: b
  module _ (h : i < length l) (b : Bool) (asked : b ≡ f (get_or l i 0)) where
    pub found : b ≡ true → true ≡ whole
    unfolding any
    found e = rw (says, drop-cons l i 0 h, ← asked, e)

    pub passed : b ≡ false → whole ≡ any f (drop (i + 1) l)
    unfolding any
    passed e = rw (says, drop-cons l i 0 h, ← asked, e, add-one)

  -- none is left
  pub ended : length l ≤ i → false ≡ whole
  unfolding any
  ended all = rw (says, drop_of_length-le l all)
