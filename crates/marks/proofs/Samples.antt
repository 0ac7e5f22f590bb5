-- Searches computed: key 0, a key after the list's end, and absent ones whose search ends early; places on a path.
-- Assumes nothing.
use Rattle.std.specs.Prelude.{Ok, Err}
use mathlib.Core.Path.{◌≡◌, refl}
use mathlib.Core.Bool.{true, false}
use mathlib.Core.List.{List, [], ◌∷◌}
use Prim.Native.Nat.{ℕ, ◌+◌, ◌^◌}
use Rattle.marks.specs.Marks.{label, home, comes_first, seek, or_again, halt, spot_at, spot_of}

-- 63 and 31 have their home at place 7, the larger first, so 31 stands at place 0; key 0 stands as 1; 2 places are empty
abbrev table : List ℕ
table = 31 ∷ 1 ∷ 8 ∷ 15 ∷ 0 ∷ 17 ∷ 0 ∷ 63 ∷ []

pub present : (spot_of 63 table ≡ Ok 7) × (spot_of 31 table ≡ Ok 0) × (spot_of 0 table ≡ Ok 1)
unfolding label home seek or_again halt spot_at
present = (refl, refl, refl)

-- 95 and 25 have their home at place 7 too: 95 is larger than 63; 25 is smaller than 63 and 31, and larger than what stands after them; the home of 16 is empty
pub absent : (spot_of 95 table ≡ Err 7) × (spot_of 25 table ≡ Err 1) × (spot_of 16 table ≡ Err 4)
unfolding label home seek or_again halt spot_at
absent = (refl, refl, refl)

-- the head of a key counts
pub scattered : (home 8 1024 ≡ 2) × (home (2 ^ 40 + 8) 1024 ≡ 186) × (home (2 ^ 60 + 8) 1024 ≡ 234)
unfolding home
scattered = (refl, refl, refl)

-- a path that begins at place 7 goes on at place 0; no place comes before itself
pub order : (comes_first 7 7 0 ≡ true) × (comes_first 7 0 1 ≡ true) × (comes_first 7 0 7 ≡ false) × (comes_first 7 1 0 ≡ false) × (comes_first 7 7 7 ≡ false)
unfolding comes_first
order = (refl, refl, refl, refl, refl)
