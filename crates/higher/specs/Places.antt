-- A row's higher neighbours: the places of those with a larger key and weight above 0, ascending, and the keys and sides there, on any lists. On an
-- accepted table they are `higher` of tetrahedra's specs/Near.antt (proofs/HigherLaws.antt).
use Rattle.std.specs.Prelude.{ℕ, ◌+◌, Bool, false, cond, ◌&&◌, List, [], map, ltb, Float, length, get_or, take, None, Option}
use Rattle.std.specs.Float.{nan}
use Rattle.lists.specs.Padding.{padded}
use Rattle.neighbors.specs.Neighbors.{neighbours}
use Rattle.search.specs.Nearby.{find_above}
use Rattle.table.specs.Table.{lengths_ok}
use Rattle.rings.specs.Sides.{is_inside}
use Rattle.rings.specs.Rings.{weighted_found}
use Rattle.groups.specs.Near.{gathered}
use Rattle.higher.specs.declared.Higher.{Higher}

-- what was found, if the weight there is above 0
unfoldable pub if_weighted : List Float → Option ℕ → Option ℕ
unfolding weighted_found
if_weighted ws f = cond (weighted_found ws f) f None

-- where a cell stands past a row, if its key is larger and its weight above 0
unfoldable pub found_above : List ℕ → List Float → ℕ → ℕ → ℕ → Option ℕ
unfolding if_weighted
found_above ks ws n row cell = cond (ltb (get_or ks row 0) cell) (if_weighted ws (find_above cell (take n ks) (row + 1))) None

-- the places of a row's higher neighbours; none where the lists have lengths that no table has, or no such row
unfoldable pub places_in : List ℕ → ℕ → List Float → ℕ → ℕ → List ℕ
unfolding gathered found_above
places_in ks distances ws n row =
    cond (lengths_ok (length ks) distances (length ws) n && ltb row n) (gathered (found_above ks ws n row) (neighbours (get_or ks row 0))) []

-- the key at a place
abbrev pub key_at : List ℕ → ℕ → ℕ
key_at ks place = get_or ks place 0

-- whether the row at a place is inside
abbrev pub is_inside_at : List Float → ℕ → Bool
is_inside_at ds place = is_inside (get_or ds place nan)

-- the keys and sides at places
abbrev pub shown_at : List ℕ → List Float → List ℕ → Higher
shown_at ks ds places =
    record { keys = padded 0 14 (map (key_at ks) places); inside = padded false 14 (map (is_inside_at ds) places); count = length places }

-- a row's higher neighbours
unfoldable pub higher_of : List ℕ → List Float → List Float → ℕ → ℕ → Higher
unfolding places_in
higher_of ks ds ws n row = shown_at ks ds (places_in ks (length ds) ws n row)
