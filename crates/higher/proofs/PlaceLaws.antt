-- Where a cell stands past a row, if its key is larger and its weight above 0: by cases, as the code goes, and what is then known.
-- Assumes nothing.
use Rattle.std.specs.Prelude.{Some, None, Option}
use Prim.Native.Nat.{ℕ, ◌+◌, ◌≤◌, ◌<◌}
use native.Mathlib.Omega.{arith}
use mathlib.Core.Path.{◌≡◌, refl, sym, ◌∙◌}
use mathlib.Core.Bool.{Bool, true, false, cond, ◌&&◌}
use mathlib.Core.List.Memᴰ
use mathlib.Core.List.{List, []}
use lib.Dec.{ltb, eqb}
use lib.Ieee.{Float, nan}
use lib.ListN.{length, get_or, take, length-take}
use borrow.Author.Tests.{lt-ltb, le-ltb, ltb-true, eqb-true}
use Rattle.lists.specs.Lists.{◌∈◌}
use Rattle.lists.proofs.Bools.{cases, and_first, and_second}
use Rattle.neighbors.specs.Neighbors.{neighbours}
use Rattle.neighbors.proofs.NeighborLaws.{at_most_14}
use Rattle.search.specs.Nearby.{stands_at, find_above}
use Rattle.table.specs.Table.{lengths_ok}
use Rattle.table.proofs.RowLaws.{lengths_known}
use Rattle.rings.specs.Sides.{is_positive}
use Rattle.rings.specs.Rings.{weighted_found}
use Rattle.rings.proofs.WeightLaws.{here}
use Rattle.groups.specs.Near.{gathered}
use Rattle.groups.proofs.Neighbourhoods.{absent_at, gathered_few, gathered_in}
use Rattle.higher.specs.Places.{if_weighted, found_above, places_in}
use Rattle.higher.specs.Steps.{AtRow}

-- a key stands at a place that is told
stands_known : (k : ℕ) (ks : List ℕ) (p i : ℕ) → stands_at k ks p ≡ Some i → (i < length ks) × (get_or ks i 0 ≡ k)
unfolding stands_at
stands_known k ks p i =
    let a = ltb p (length ks) in
    let b = eqb (get_or ks p 0) k in
    cases (λ (t : Bool). cond t (Some p) None ≡ Some i → (i < length ks) × (get_or ks i 0 ≡ k)) (a && b)
    (λ t e. let same : p ≡ i = cc in rw (← same) (ltb-true _ _ (and_first a b t), eqb-true _ _ (and_second a b t)))
    (λ t e. absurd (absent_at i e))

weighted_known : (ws : List Float) (f : Option ℕ) (i : ℕ) → if_weighted ws f ≡ Some i → (f ≡ Some i) × (weighted_found ws f ≡ true)
unfolding if_weighted
weighted_known ws f i =
    cases (λ (t : Bool). cond t f None ≡ Some i → (f ≡ Some i) × (t ≡ true)) (weighted_found ws f) (λ t e. (e, refl)) (λ t e. absurd (absent_at i e))

module _ (ks : List ℕ) (ws : List Float) (n row cell : ℕ) where
  abbrev search : Option ℕ
  search = find_above cell (take n ks) (row + 1)

  -- what was found is a place whose key is the cell's
  pub found_known : (i : ℕ) → search ≡ Some i → (i < n) × (i < length ks) × (get_or (take n ks) i 0 ≡ cell)
  found_known i e =
      let h = stands_known cell (take n ks) _ i e in
      let l = length-take n ks in
      (omega (arith, h.0), omega (arith, h.0), h.1)

  -- a cell that was placed has a larger key, was found, and has weight above 0
  pub place_known : (i : ℕ) → found_above ks ws n row cell ≡ Some i → (get_or ks row 0 < cell) × (search ≡ Some i) × (weighted_found ws search ≡ true)
  unfolding found_above
  place_known i =
      cases (λ (t : Bool). cond t (if_weighted ws search) None ≡ Some i → (get_or ks row 0 < cell) × (search ≡ Some i) × (weighted_found ws search ≡ true))
      (ltb (get_or ks row 0) cell) (λ t e. let w = weighted_known ws search i e in (ltb-true _ _ t, w.0, w.1)) (λ t e. absurd (absent_at i e))

  pub in_place : get_or ks row 0 < cell → weighted_found ws search ≡ true → found_above ks ws n row cell ≡ search
  unfolding found_above if_weighted
  in_place h w = rw (lt-ltb _ _ h, w)

  -- the ways of the code
  pub not_larger : cell ≤ get_or ks row 0 → found_above ks ws n row cell ≡ None
  unfolding found_above
  not_larger h = rw (le-ltb _ _ h)

  module _ (larger : get_or ks row 0 < cell) (f : Option ℕ) (e : f ≡ search) where
    pub not_found : f ≡ None → found_above ks ws n row cell ≡ None
    unfolding found_above if_weighted weighted_found
    not_found h = rw (lt-ltb _ _ larger, ← e, h)

    module _ (i : ℕ) (h : f ≡ Some i) (l : i < length ws) where
      pub too_light : is_positive (get_or ws i nan) ≡ false → found_above ks ws n row cell ≡ None
      unfolding found_above if_weighted weighted_found
      too_light p = rw (lt-ltb _ _ larger, ← e, h, lt-ltb _ _ l, p)

      pub weighed : is_positive (get_or ws i nan) ≡ true → found_above ks ws n row cell ≡ Some i
      weighed p = in_place larger (sym (here ws search f e i h l) ∙ p) ∙ sym e ∙ h

-- ---- the places of a row's higher neighbours

module _ (ks : List ℕ) (distances : ℕ) (ws : List Float) (n row : ℕ) where
  abbrev pub fit : Bool
  fit = lengths_ok (length ks) distances (length ws) n && ltb row n

  pub within : fit ≡ true → AtRow ks ws n row
  within e =
      let ok = lengths_ok (length ks) distances (length ws) n in
      let h = lengths_known (length ks) distances (length ws) n (and_first ok (ltb row n) e) in
      record { fits = h.0; weights = h.2; few = h.3; below = ltb-true row n (and_second ok (ltb row n) e) }

  abbrev look : ℕ → Option ℕ
  look = found_above ks ws n row

  -- they are at most 14, each below the count
  pub places_few : length (places_in ks distances ws n row) ≤ 14
  unfolding places_in
  places_few =
      cases (λ (t : Bool). length (cond t (gathered look (neighbours (get_or ks row 0))) []) ≤ 14) fit
      (λ t. omega (arith, gathered_few look (neighbours (get_or ks row 0)), at_most_14 (get_or ks row 0))) (λ t. omega arith)

  pub places_below : (i : ℕ) → i ∈ places_in ks distances ws n row → (i < length ks) × (i < distances)
  unfolding places_in
  places_below i =
      cases (λ (t : Bool). i ∈ cond t (gathered look (neighbours (get_or ks row 0))) [] → (i < length ks) × (i < distances)) fit
      (λ t m.
      let r = gathered_in look (neighbours (get_or ks row 0)) i m in
      let h = found_known ks ws n row r.0 i (place_known ks ws n row r.0 i r.2).1 in
      let same = (lengths_known (length ks) distances (length ws) n (and_first (lengths_ok (length ks) distances (length ws) n) (ltb row n) t)).1 in
      (h.1, omega (arith, h.1)))
      (λ t m. absurd (Memᴰ.not-nil m))
