-- The list of tetrahedra holds every tetrahedron of the table, each once, by ascending keys in dictionary order, and no other; no other list does.
-- Assumes nothing.
use Prim.Native.Nat.{ℕ, ◌<◌}
use mathlib.Core.Path.{◌≡◌}
use mathlib.Core.Bool.{true}
use mathlib.Core.List.{List}
use Rattle.lists.specs.Lists.{◌∈◌, Ordered, kept}
use Rattle.lists.proofs.ListLaws.{kept_in, in_kept, map_in, kept_ordered, map_ordered, ordered_weaken, one_order}
use Rattle.search.specs.Keys.{ascending}
use Rattle.table.specs.Table.{Row}
use Rattle.table.specs.Rows.{keys_of}
use Rattle.table.proofs.StoredLaws.{ascending_rows}
use Rattle.rings.specs.Sides.{weighted}
use Rattle.tetrahedra.specs.Fours.{Four, Corner, c0, c1, c2, c3, at, Rising, Dictionary4, fours}
use Rattle.tetrahedra.specs.Tetrahedra.{tetrahedron, weighted_keys, tetrahedra}
use Rattle.tetrahedra.specs.TetrahedronList.{Complete, IsTetrahedronList}
use Rattle.tetrahedra.proofs.FourLaws.{fours_in, in_fours, fours_ordered, dictionary4_asym}
use Rattle.tetrahedra.proofs.Lattice.{CliqueOf, tetrahedron_clique}

module _ (rows : List Row) (up : ascending (keys_of rows) ≡ true) where
  pub weighted_up : Ordered ◌<◌ (weighted_keys rows)
  weighted_up =
      map_ordered ◌<◌ (λ (r : Row). r.key) (kept weighted rows)
      (kept_ordered (λ r s. r.key < s.key) weighted rows (ascending_rows rows up))

  complete_in : (t : Four) → t ∈ tetrahedra rows → Complete rows t
  unfolding tetrahedra
  complete_in t m =
      let k = kept_in tetrahedron (fours (weighted_keys rows)) m in
      let r = fours_in (weighted_keys rows) weighted_up t k.0 in
      record { rising = r.rising; a_in = r.a_in; b_in = r.b_in; c_in = r.c_in; d_in = r.d_in; shape = k.1 }

  in_complete : (t : Four) → Complete rows t → t ∈ tetrahedra rows
  unfolding tetrahedra
  in_complete t h =
      in_kept tetrahedron (fours (weighted_keys rows))
      (in_fours (weighted_keys rows) weighted_up t (record { rising = h.rising; a_in = h.a_in; b_in = h.b_in; c_in = h.c_in; d_in = h.d_in })) h.shape

  in_order : Ordered Dictionary4 (tetrahedra rows)
  unfolding tetrahedra
  in_order = kept_ordered Dictionary4 tetrahedron (fours (weighted_keys rows)) (fours_ordered (weighted_keys rows) weighted_up)

  -- the list is as it is to be
  pub tetrahedra_are : IsTetrahedronList rows (tetrahedra rows)
  tetrahedra_are =
      record {
        every = in_complete;
        only = complete_in;
        once =
            ordered_weaken Dictionary4 (λ t u. t ≡ u → ⊥) (tetrahedra rows)
            (λ t u p q d e. let same : Dictionary4 t t = rw (← e) at d in dictionary4_asym t t same same) in_order;
        ordered = in_order;
      }

  -- no other list is
  pub tetrahedra_only : (l : List Four) → IsTetrahedronList rows l → l ≡ tetrahedra rows
  tetrahedra_only l h =
      one_order Dictionary4 dictionary4_asym l (tetrahedra rows) h.ordered in_order
      (λ t m. in_complete t (h.only t m)) (λ t m. h.every t (complete_in t m))

  -- what is used of a tetrahedron of the list
  pub rising_in : (t : Four) → t ∈ tetrahedra rows → Rising t
  rising_in t m = (complete_in t m).rising

  pub clique_in : (t : Four) → t ∈ tetrahedra rows → CliqueOf t
  clique_in t m = tetrahedron_clique t (complete_in t m).shape

  pub corner_in : (t : Four) → t ∈ tetrahedra rows → (c : Corner) → at t c ∈ weighted_keys rows
  corner_in t m c0 = (complete_in t m).a_in
  corner_in t m c1 = (complete_in t m).b_in
  corner_in t m c2 = (complete_in t m).c_in
  corner_in t m c3 = (complete_in t m).d_in

-- a key of weight above 0 is that of a stored row
pub row_of : (rows : List Row) (k : ℕ) → k ∈ weighted_keys rows → (r : Row) × (r ∈ rows) × (k ≡ r.key)
row_of rows k m =
    let j = map_in (λ (r : Row). r.key) (kept weighted rows) m in
    let i = kept_in weighted rows j.1 in
    (j.0, i.0, j.2)
