-- What `cell_edges` hands back from the lists that a mesh leaves: exactly the cell's edge numbers, ascending, since the groups before a cell's hold one
-- number for each edge end with a smaller key.
-- Assumes nothing.
use Prim.Native.Nat.{ℕ, ◌<◌, ◌+◌}
use native.Mathlib.Omega.{arith}
use mathlib.Core.Path.{◌≡◌, ap}
use mathlib.Core.Logic.{◌⊎◌, inl, inr, ◌↔◌}
use mathlib.Core.Bool.{Bool, true}
use mathlib.Core.List.Memᴰ
use mathlib.Core.List.{List, ◌++◌}
use lib.ListN.{length}
use Rattle.ids.specs.Key.{on_lattice}
use Rattle.lists.specs.Lists.{◌∈◌, Ordered, Distinct}
use Rattle.lists.proofs.ListLaws.{in_map, ordered_weaken}
use Rattle.neighbors.specs.Neighbors.{neighbours, adjacent}
use Rattle.search.specs.Keys.{ascending}
use Rattle.table.specs.Table.{Row}
use Rattle.table.specs.Rows.{keys_of}
use Rattle.edges.specs.Edges.{Edge}
use Rattle.edges.specs.EdgeList.{pair_of, SamePair, IsEdgeList}
use Rattle.edges.specs.Listing.{firsts, seconds}
use Rattle.edges.specs.ZeroCrossing.{crosses_zero, zero_crossing_edges}
use Rattle.search.proofs.KeyLaws.{ascending_keys}
use Rattle.edges.proofs.ZeroCrossingLaws.{lattice, demand_3_edges}
use Rattle.groups.specs.Groups.{EndsAt, group_of, groups}
use Rattle.groups.specs.CellEdges.{edge_lists_ok, cell_edges}
use Rattle.groups.specs.Near.{near_group}
use Rattle.handful.proofs.PlacingLaws.{compared}
use Rattle.groups.proofs.GroupLaws.{group_in_lem, in_group, group_ordered}
use Rattle.groups.proofs.PartLaws.{Covers, groups_length, group_part}
use Rattle.groups.proofs.CountingLaws.{edges_back}
use Rattle.groups.proofs.Neighbourhoods.{gathered_is_group}

-- both keys of a pair are among the keys, where its two keys are
pair_in : (a b : ℕ) (ks : List ℕ) → a ∈ ks → b ∈ ks → ((pair_of a b).first ∈ ks) × ((pair_of a b).second ∈ ks)
pair_in a b ks i j = go (compared a b)
  where
    go : (a < b) ⊎ ((b < a) ⊎ (a ≡ b)) → ((pair_of a b).first ∈ ks) × ((pair_of a b).second ∈ ks)
    go (inl l) = (Memᴰ.cast (omega arith) i, Memᴰ.cast (omega arith) j)
    go (inr (inl l)) = (Memᴰ.cast (omega arith) j, Memᴰ.cast (omega arith) i)
    go (inr (inr e)) = (Memᴰ.cast (omega arith) i, Memᴰ.cast (omega arith) i)

-- different pairs are different edges
pub distinct_edges : (es : List Edge) → Ordered (λ e f. SamePair e f → ⊥) es → Distinct es
distinct_edges es o =
    ordered_weaken (λ e f. SamePair e f → ⊥) (λ e f. e ≡ f → ⊥) es
    (λ e f i j d q. d (inl (ap (λ (x : Edge). x.first) q, ap (λ (x : Edge). x.second) q))) o

module _ (near : ℕ → List ℕ) (adjacent : ℕ → ℕ → Bool) (crosses : Row → Row → Bool) (rows : List Row) (es : List Edge)
    (up : ascending (keys_of rows) ≡ true) (h : IsEdgeList near adjacent crosses rows es) where
  -- an edge list's ends are keys of rows
  pub covered : Covers es (keys_of rows)
  covered =
      record {
        upward = h.smaller;
        ends =
            λ e m.
            let c = h.only e m in
            let p =
            pair_in c.0.key c.1.key (keys_of rows) (in_map (λ (r : Row). r.key) rows c.2.stored)
            (in_map (λ (r : Row). r.key) rows c.2.beside) in
            (Memᴰ.cast (ap (λ (x : Edge). x.first) c.3) p.0, Memᴰ.cast (ap (λ (x : Edge). x.second) c.3) p.1);
        ascending = ascending_keys (keys_of rows) up;
      }

  -- the list of groups has two places for each edge
  pub groups_room : length (groups es (keys_of rows)) ≡ length es + length es
  groups_room = groups_length es (keys_of rows) covered

  -- on the lists that a mesh leaves, whatever follows what it wrote, the call hands back the cell's group
  module _ (xs ys zs : List ℕ) (cell : ℕ) (on : on_lattice cell ≡ true)
      (ok : edge_lists_ok (length (groups es (keys_of rows) ++ zs)) (length (firsts es ++ xs)) (length (seconds es ++ ys)) (length es) ≡ true) where
    abbrev part : List ℕ
    part = cell_edges (groups es (keys_of rows) ++ zs) (firsts es ++ xs) (seconds es ++ ys) (length es) cell

    pub call_hands_group : part ≡ group_of es cell
    unfolding cell_edges
    call_hands_group = rw (ok, on, edges_back es xs ys) (group_part es (keys_of rows) covered zs cell)

    -- it holds exactly the numbers of the edges that have the cell as an end, ascending
    pub part_exactly : ((i : ℕ) → (i ∈ part) ↔ EndsAt es i cell) × Ordered ◌<◌ part
    part_exactly = rw call_hands_group ((λ i. (group_in_lem es cell i, in_group es cell i)), group_ordered es cell)

-- A cell's group from its own neighbourhood is its group, in the edge list of ascending rows.
pub near_is_group :
    (rows : List Row)
    → ascending (keys_of rows) ≡ true
    → (cell : ℕ)
    → near_group (zero_crossing_edges rows) cell ≡ group_of (zero_crossing_edges rows) cell
near_is_group rows up cell = gathered_is_group neighbours adjacent crosses_zero rows (zero_crossing_edges rows) lattice (demand_3_edges rows up) cell
