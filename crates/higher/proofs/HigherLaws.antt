-- On an accepted table a row's higher neighbours are those of the definition: both lists ascend and hold the same keys.
-- Assumes nothing.
use Rattle.std.specs.Prelude.{Some, None, Option}
use Prim.Native.Nat.{ℕ, ◌+◌, ◌<◌}
use native.Mathlib.Omega.{arith}
use mathlib.Core.Path.{◌≡◌, refl, sym, ap, ◌∙◌}
use mathlib.Core.Bool.{true, false, false≢true}
use mathlib.Core.List.Memᴰ
use mathlib.Core.List.{List, [], ◌∷◌, map, map-map}
use lib.Ieee.{Float}
use lib.ListN.{length, get_or, take, length-map}
use lib.Seq.{length-take-le, get_or-take}
use borrow.Author.Tests.{lt-ltb}
use Rattle.lists.specs.Lists.{◌∈◌, Ordered}
use Rattle.lists.proofs.ListLaws.{map_in, in_map, ordered_at, ordered_weaken, map_ordered, one_order}
use Rattle.lists.proofs.PaddingLaws.{padded_length, padded_front}
use Rattle.neighbors.specs.Neighbors.{neighbours}
use Rattle.neighbors.proofs.Adjacency.{neighbour_adjacent, adjacent_neighbour, neighbours_distinct}
use Rattle.search.specs.Keys.{find_by}
use Rattle.search.specs.Nearby.{find_above}
use Rattle.search.proofs.KeyLaws.{ascending_keys}
use Rattle.search.proofs.NearbyLaws.{found_above_lem}
use Rattle.table.specs.Table.{Row, rows_of, table}
use Rattle.table.proofs.Keeping.{lengths_say}
use Rattle.rings.specs.Sides.{inside}
use Rattle.rings.specs.Rings.{weighted_at, weighted_found}
use Rattle.edges.specs.Steps.{Accepted}
use Rattle.edges.proofs.ListingLaws.{rows_rise, one_stored}
use Rattle.edges.proofs.SurfaceLaws.{found_weight}
use Rattle.groups.specs.Near.{gathered}
use Rattle.groups.proofs.Neighbourhoods.{gathered_in, in_gathered, gathered_ordered}
use Rattle.tetrahedra.specs.ClosedEdges.{inside_at}
use Rattle.tetrahedra.specs.Near.{higher}
use Rattle.tetrahedra.proofs.NearLaws.{higher_in, in_higher, higher_up}
use Rattle.tetrahedra.proofs.ScanLaws.{at_weighted, weighted_in}
use Rattle.higher.specs.Places.{key_at, is_inside_at, found_above, places_in, higher_of}
use Rattle.higher.specs.HigherList.{IsHigher}
use Rattle.higher.proofs.PlaceLaws.{found_known, place_known, in_place, places_few}

-- two functions that agree on a list
map_same : {A B : Type 0} (f g : A → B) (l : List A) → ((x : A) → x ∈ l → f x ≡ g x) → map f l ≡ map g l
map_same f g [] h = refl
map_same f g (x ∷ l) h =
    let first = h x (Memᴰ.head refl) in
    let rest = map_same f g l (λ y m. h y (Memᴰ.tail m)) in
    cc

module _ (ks : List ℕ) (ds ws : List Float) (n row : ℕ) (acc : Accepted (table ks ds ws n)) (below : row < n) where
  abbrev rows : List Row
  rows = rows_of ks ds ws n

  abbrev k : ℕ
  k = get_or ks row 0

  abbrev look : ℕ → Option ℕ
  look = found_above ks ws n row

  abbrev places : List ℕ
  places = gathered look (neighbours k)

  abbrev cells : List ℕ
  cells = map (key_at ks) places

  -- ---- a cell that is placed

  module _ (cell : ℕ) (larger : k < cell) where
    -- the search past the row finds what the search of all finds,
    same_search : find_above cell (take n ks) (row + 1) ≡ find_by cell (take n ks)
    same_search = found_above_lem cell ks n row acc.fits acc.rising below larger

    -- so the weight there is that of the cell
    same_weight : weighted_found ws (find_above cell (take n ks) (row + 1)) ≡ weighted_at rows cell
    same_weight = found_weight ks ds ws n acc cell _ same_search

    -- where it is above 0, the cell is placed
    placed : weighted_at rows cell ≡ true → (i : ℕ) × (look cell ≡ Some i)
    unfolding weighted_found
    placed w = go (find_above cell (take n ks) (row + 1)) refl (same_weight ∙ w)
      where
        go : (f : Option ℕ) → find_above cell (take n ks) (row + 1) ≡ f → weighted_found ws f ≡ true → (i : ℕ) × (look cell ≡ Some i)
        go (Some i) e t = (i, in_place ks ws n row cell larger (same_weight ∙ w) ∙ e)
        go None e t = absurd (false≢true t)

  module _ (cell i : ℕ) (e : look cell ≡ Some i) where
    known : (k < cell) × (find_above cell (take n ks) (row + 1) ≡ Some i) × (weighted_found ws (find_above cell (take n ks) (row + 1)) ≡ true)
    known = place_known ks ws n row cell i e

    place_in : i < n
    place_in = (found_known ks ws n row cell i known.1).0

    key_there : get_or ks i 0 ≡ cell
    key_there = sym (get_or-take n ks i 0 place_in) ∙ (found_known ks ws n row cell i known.1).2

    weight_there : weighted_at rows cell ≡ true
    weight_there = sym (same_weight cell known.0) ∙ known.2

    side_there : inside_at rows (get_or ks i 0) ≡ is_inside_at ds i
    unfolding inside_at inside
    side_there = rw (key_there, one_stored ks ds ws n acc cell (find_by cell (take n ks)) refl i (sym (same_search cell known.0) ∙ known.1))

  -- ---- the cells at the places

  keys_rise : (i j : ℕ) → i < j → j < n → get_or ks i 0 < get_or ks j 0
  keys_rise i j h g =
      let long : j < length (take n ks) = rw (length-take-le n ks acc.fits) g in
      rw (← get_or-take n ks i 0 (omega arith), ← get_or-take n ks j 0 g) (ordered_at ◌<◌ (take n ks) 0 (ascending_keys (take n ks) acc.rising) i j h long)

  cells_up : Ordered ◌<◌ cells
  cells_up =
      map_ordered ◌<◌ (key_at ks) places
      (ordered_weaken ◌<◌ (λ i j. key_at ks i < key_at ks j) places
      (λ i j p q h. let r = gathered_in look (neighbours k) j q in keys_rise i j h (place_in r.0 j r.2))
      (gathered_ordered look (λ a b i e f. sym (key_there a i e) ∙ key_there b i f) (neighbours k) (neighbours_distinct k)))

  cells_in : (cell : ℕ) → cell ∈ cells → cell ∈ higher rows k
  cells_in cell m =
      let p = map_in (key_at ks) places m in
      let r = gathered_in look (neighbours k) p.0 p.1 in
      let up = rows_rise ks ds ws n acc in
      Memᴰ.cast (p.2 ∙ key_there r.0 p.0 r.2)
      (in_higher rows up k r.0 (weighted_in rows up r.0 (weight_there r.0 p.0 r.2)) (known r.0 p.0 r.2).0
      (neighbour_adjacent k r.0 r.1))

  in_cells : (cell : ℕ) → cell ∈ higher rows k → cell ∈ cells
  in_cells cell m =
      let up = rows_rise ks ds ws n acc in
      let h = higher_in rows up k cell m in
      let p = placed cell h.1 (at_weighted rows up cell h.0) in
      Memᴰ.cast (sym (key_there cell p.0 p.1))
      (in_map (key_at ks) places (in_gathered look (neighbours k) cell p.0 (adjacent_neighbour k cell h.2) p.1))

  cells_are : cells ≡ higher rows k
  cells_are = one_order ◌<◌ (λ x y p q. omega arith) cells (higher rows k) cells_up (higher_up rows (rows_rise ks ds ws n acc) k) cells_in in_cells

  sides_are : map (is_inside_at ds) places ≡ map (inside_at rows) (higher rows k)
  sides_are =
      map_same (is_inside_at ds) (λ i. inside_at rows (key_at ks i)) places
      (λ i m. let r = gathered_in look (neighbours k) i m in sym (side_there r.0 i r.2))
      ∙ sym (map-map (inside_at rows) (key_at ks) places)
      ∙ ap (map (inside_at rows)) cells_are

  -- ---- the law

  places_are : places_in ks (length ds) ws n row ≡ places
  unfolding places_in
  places_are = rw (lengths_say (length ks) (length ds) (length ws) n acc.fits acc.distances acc.weights acc.few, lt-ltb row n below)

  pub higher_are : IsHigher rows k (higher_of ks ds ws n row)
  unfolding higher_of
  higher_are =
      let found = places_in ks (length ds) ws n row in
      let few = places_few ks (length ds) ws n row in
      let a = length-map found (key_at ks) in
      let b = length-map found (is_inside_at ds) in
      record {
        cells = rw (← a) (padded_front 0 14 (map (key_at ks) found)) ∙ ap (map (key_at ks)) places_are ∙ cells_are;
        sides = rw (← b) (padded_front false 14 (map (is_inside_at ds) found)) ∙ ap (map (is_inside_at ds)) places_are ∙ sides_are;
        number = sym a ∙ ap (λ (l : List ℕ). length (map (key_at ks) l)) places_are ∙ ap length cells_are;
        few = few;
        keys_room = padded_length 0 14 (map (key_at ks) found) (rw a few);
        inside_room = padded_length false 14 (map (is_inside_at ds) found) (rw b few);
      }
