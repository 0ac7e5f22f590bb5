-- Looking up a distance: what the search by halves finds is read.
-- Assumes nothing.
use Rattle.std.specs.Prelude.{Some, None, Option, is_some, unwrap_or, option_map, option_copied}
use Rattle.std.specs.Borrow.{Bor}
use mathlib.Core.Path.{◌≡◌, ◌∙◌}
use mathlib.Core.List.{List}
use Prim.Native.Nat.{ℕ}
use lib.Dec.{ltb}
use lib.ListN.{length, get_or, take}
use lib.Ieee.{Float, nan}
use Rattle.search.specs.Keys.{find_by}
use Rattle.slopes.specs.Stored.{distance_at, distance_by}

-- f is what the list's `get` gives for a place
read :
    (ds : List Float) (place : ℕ) (f : Option (Bor Float))
    → is_some f ≡ ltb place (length ds)
    → unwrap_or (option_map (λ (x : Bor Float). x.now) f) nan ≡ get_or ds place nan
    → option_copied f ≡ distance_at ds (Some place)
unfolding distance_at
read ds place (Some x) e v = rw (← e, ← v)
read ds place None e v = rw (← e)

module _ (ks : List ℕ) (ds : List Float) (n key : ℕ) {r : Option ℕ} (e : r ≡ find_by key (take n ks)) where
  pub nowhere : r ≡ None → None ≡ distance_by ks ds n key
  unfolding distance_at
  nowhere h = rw (← e, h)

  pub here :
      (place : ℕ) (f : Option (Bor Float))
      → r ≡ Some place
      → is_some f ≡ ltb place (length ds)
      → unwrap_or (option_map (λ (x : Bor Float). x.now) f) nan ≡ get_or ds place nan
      → option_copied f ≡ distance_by ks ds n key
  here place f h s v = read ds place f s v ∙ rw (← e, h)
