-- Laws of writing into a lent list from a place on, for every element type.
-- Assumes nothing.
use Prim.Native.Nat.{ℕ, suc, ◌+◌, ◌≤◌}
use native.Mathlib.Nat.{add-zero, add-suc, suc-add, sub-zero}
use native.Mathlib.Omega.{arith}
use mathlib.Core.Path.{◌≡◌, refl}
use mathlib.Core.List.{List, [], ◌∷◌, ◌++◌}
use lib.ListN.{length, set, take, drop}
use Rattle.lists.specs.Places.{filled, cleared_from}
use lib.Seq.{sets, sets-eq, take_at}

module _ {A : Type 0} where
  -- writing two lists is writing one after the other
  pub sets_append : (l : List A) (at : ℕ) (xs ys : List A) → sets l at (xs ++ ys) ≡ sets (sets l at xs) (at + length xs) ys
  sets_append l at [] ys = rw (add-zero at)
  sets_append l at (x ∷ xs) ys = rw (add-suc at (length xs), ← suc-add at (length xs)) (sets_append (set l at x) (suc at) xs ys)

  -- what is written from the front stands in front, where there is room
  pub sets_front : (l xs : List A) → length xs ≤ length l → take (length xs) (sets l 0 xs) ≡ xs
  sets_front l xs h = rw (sets-eq xs l 0 (omega arith)) (take_at xs (drop (0 + length xs) l) (length xs) refl)

module _ {A : Type 0} (v : A) where
  -- cleared from the front, every place is v
  pub cleared_whole : (l : List A) → cleared_from v 0 l ≡ filled v l
  cleared_whole l = rw sub-zero
