-- On an accepted table a row's higher neighbours with their sides are the definition's, so what is cut at a row is; and in two lists that hold the
-- closed edges each is found.
-- Assumes nothing.
use Prim.Native.Nat.{ℕ, suc, ◌+◌, ◌<◌, ◌≤◌}
use native.Mathlib.Numerals.{add-one}
use native.Mathlib.Omega.{arith}
use mathlib.Core.Path.{◌≡◌, refl, sym, ap, ap₂, subst, ◌∙◌}
use mathlib.Core.Bool.{Bool, true, false}
use mathlib.Core.List.Memᴰ
use mathlib.Core.List.{List, [], ◌∷◌, map}
use lib.Ieee.{Float, nan, lt}
use lib.ListN.{length, get_or, take, drop, length-take, take-append-drop, drop_of_length-le}
use Rattle.floats.specs.Floats.{zero32}
use Rattle.lists.specs.Lists.{◌∈◌, joined}
use Rattle.lists.specs.Threes.{Three, threes}
use Rattle.lists.proofs.ListLaws.{in_map, in_kept}
use Rattle.neighbors.specs.Neighbors.{neighbours, adjacent}
use Rattle.search.specs.Keys.{ascending, place_of}
use Rattle.table.specs.Table.{Row, rows_of, beside, table}
use Rattle.table.specs.Rows.{keys_of}
use Rattle.table.proofs.RowLaws.{row_at_lem}
use Rattle.edges.specs.Edges.{Edge}
use Rattle.edges.specs.Steps.{Accepted, row_at}
use Rattle.edges.proofs.ListingLaws.{rows_rise}
use Rattle.edges.proofs.ZeroCrossingLaws.{lattice}
use Rattle.groups.specs.CellEdges.{edges_in}
use Rattle.groups.proofs.Neighbourhoods.{firsts_ascend}
use Rattle.rings.specs.Sides.{inside, weighted}
use Rattle.tetrahedra.specs.Tetrahedra.{weighted_keys}
use Rattle.tetrahedra.specs.ClosedEdges.{inside_at, crosses_in, closed_edges}
use Rattle.tetrahedra.specs.ClosedTriangles.{closed_triangles}
use Rattle.tetrahedra.specs.Near.{higher}
use Rattle.tetrahedra.proofs.ClosedEdgeLaws.{edges_are, edges_distinct, inside_at_lem}
use Rattle.higher.specs.declared.Higher.{Higher}
use Rattle.higher.specs.Places.{higher_of}
use Rattle.higher.specs.HigherList.{IsHigher}
use Rattle.higher.proofs.HigherLaws.{higher_are}
use Rattle.cutting.specs.Corners.{Sided, sided, sided_by, cuts_of, sided_in, cuts_at, cut_row}
use Rattle.cuts.specs.Numbers.{Numbered}
use Rattle.cutting.specs.Steps.{Puts, Beside, starts_at, Own}
use Rattle.cutting.proofs.GoingLaws.{Going, going_more}
use Rattle.cutting.proofs.CutRowLaws.{row_by_row, no_edge_no_cut}
use Rattle.cutting.proofs.StartLaws.{no_start}

-- keys beside their sides in a table
sided_in_lem : (rows : List Row) (hs : List ℕ) → sided_by hs (map (inside_at rows) hs) ≡ map (sided_in rows) hs
unfolding sided_by
sided_in_lem rows [] = refl
sided_in_lem rows (h ∷ hs) = ap (λ (l : List Sided). sided_in rows h ∷ l) (sided_in_lem rows hs)

-- the first of what is left of a list is in it
left_in : {A : Type 0} (l : List A) (i : ℕ) {x : A} {r : List A} → drop i l ≡ x ∷ r → x ∈ l
left_in {A} l i {x} {r} e = subst (λ (m : List A). x ∈ m) (take-append-drop i l) (Memᴰ.append_right (take i l) (rw e (Memᴰ.head refl)))

module _ (ks : List ℕ) (ds ws : List Float) (n : ℕ) (acc : Accepted (table ks ds ws n)) where
  abbrev rows : List Row
  rows = rows_of ks ds ws n

  up : ascending (keys_of rows) ≡ true
  up = rows_rise ks ds ws n acc

  module _ (row : ℕ) (below : row < n) where
    pub next_row : drop row rows ≡ row_at ks ds ws row ∷ drop (suc row) rows
    next_row = row_at_lem ks ds ws n row acc.distances acc.weights below acc.fits

    row_in : row_at ks ds ws row ∈ rows
    row_in = left_in rows row next_row

    pub side_at : lt (get_or ds row nan) zero32 ≡ inside_at rows (get_or ks row 0)
    unfolding inside
    side_at = sym (inside_at_lem rows up (row_at ks ds ws row) row_in)

    -- the higher neighbours as they are lent to the cutting
    module _ (h : Higher) (e : h ≡ higher_of ks ds ws n row) where
      is : IsHigher rows (get_or ks row 0) h
      is = rw e (higher_are ks ds ws n row acc below)

      pub lent_beside : Beside (take h.count h.keys) (take h.count h.inside)
      lent_beside =
          let a = length-take h.count h.keys in
          let b = length-take h.count h.inside in
          record { equal = omega (arith, is.keys_room, is.inside_room); few = omega (arith, is.few, is.keys_room) }

      -- they have their places
      pub lent_fit : (h.count ≤ length h.keys) × (h.count ≤ length h.inside)
      lent_fit = (omega (arith, is.few, is.keys_room), omega (arith, is.few, is.inside_room))

      pub lent_keys : h.count ≡ length (take h.count h.keys)
      lent_keys = omega (arith, length-take h.count h.keys, is.few, is.keys_room)

      pub lent_sides : h.count ≡ length (take h.count h.inside)
      lent_sides = omega (arith, length-take h.count h.inside, is.few, is.inside_room)

      pub lent_cut : (es : List Edge) (s : Bool)
          → s ≡ lt (get_or ds row nan) zero32
          → cuts_of es (sided (get_or ks row 0) s) (threes (sided_by (take h.count h.keys) (take h.count h.inside))) ≡ cuts_at rows es (get_or ks row 0)
      unfolding cuts_at
      lent_cut es s q =
          ap₂ (λ (b : Bool) (l : List Sided). cuts_of es (sided (get_or ks row 0) b) (threes l)) (q ∙ side_at)
          (ap₂ sided_by is.cells is.sides ∙ sided_in_lem rows (higher rows (get_or ks row 0)))

-- the triangles of the rows from a place on
abbrev pub rows_from : List Row → ℕ → List (Three ℕ)
rows_from rows i = joined (cut_row rows (closed_edges rows)) (drop i rows)

-- ---- two lists that hold the closed edges

module _ (ks : List ℕ) (ds ws : List Float) (n : ℕ) (first second : List ℕ) (m : ℕ) (own : Own ks ds ws n first second m) where
  abbrev closed : List Row
  closed = rows_of ks ds ws n

  rise : ascending (keys_of closed) ≡ true
  rise = rows_rise ks ds ws n own.accepted

  pub numbered : Numbered first second m
  numbered =
      record {
        pairs = own.pairs;
        once = rw own.edges (edges_distinct closed rise);
        rising = rw own.edges (firsts_ascend neighbours adjacent (crosses_in closed) closed (closed_edges closed) lattice (edges_are closed rise));
      }

  module _ (row : ℕ) (below : row < n) where
    abbrev here : Row
    here = row_at ks ds ws row

    -- a row of no weight above 0 has no triangles
    pub weightless : lt zero32 (get_or ws row nan) ≡ false → cut_row closed (closed_edges closed) here ≡ []
    unfolding weighted
    weightless e = rw e

    -- and so has one where no edge starts
    pub edgeless : lt zero32 (get_or ws row nan) ≡ true
        → (place : ℕ)
        → place ≡ place_of (get_or ks row 0) (take m first)
        → starts_at first m place (get_or ks row 0) ≡ false
        → cut_row closed (closed_edges closed) here ≡ []
    unfolding weighted
    edgeless w place p s =
        let in_rows = row_in ks ds ws n own.accepted row below in
        let key_in : get_or ks row 0 ∈ weighted_keys closed = in_map (λ (r : Row). r.key) _ (in_kept weighted closed in_rows w) in
        rw w
        (no_edge_no_cut closed rise (get_or ks row 0) key_in
        (λ e i q. no_start first second m numbered (get_or ks row 0) place p s e (rw own.edges i) q))

    -- any other has what is cut there
    pub cut_here : lt zero32 (get_or ws row nan) ≡ true → cuts_at closed (edges_in first second m) (get_or ks row 0) ≡ cut_row closed (closed_edges closed) here
    unfolding weighted
    cut_here w = rw w (ap (λ (es : List Edge). cuts_at closed es (get_or ks row 0)) own.edges)

  -- ---- the loop over the rows

  pub all_rows : rows_from closed 0 ≡ closed_triangles closed
  all_rows = sym (row_by_row closed rise)

  pub rows_left : (i : ℕ) → n ≤ i → rows_from closed i ≡ []
  unfolding joined
  rows_left i h =
      let long : length closed ≤ i = omega (arith, length-take n (beside ks ds ws)) in
      rw (drop_of_length-le closed {i = i} long)

  module _ (whole : List (Three ℕ)) (x y z : List ℕ) (end : ℕ) (x' y' z' : List ℕ) (end' : ℕ) (x'' y'' z'' : List ℕ) where
    pub row_turn : (row : ℕ)
        → row < n
        → Going whole 0 x y z (rows_from closed row) end x' y' z'
        → Puts (cut_row closed (closed_edges closed) (row_at ks ds ws row)) end x' y' z' end' x'' y'' z''
        → Going whole 0 x y z (rows_from closed (row + 1)) end' x'' y'' z''
    unfolding joined
    row_turn row below w p =
        going_more whole 0 x y z _ end x' y' z' w _ (rows_from closed (row + 1))
        (ap (joined (cut_row closed (closed_edges closed))) (next_row ks ds ws n own.accepted row below) ∙ rw (add-one row)) end' x'' y'' z'' p
