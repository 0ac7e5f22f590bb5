-- What two loops over the neighbours of a cell find: whether there is a tetrahedron around an edge, so whether two rows cross, and so the vertex list.
-- Assumes nothing.
use Rattle.std.specs.Prelude.{None, Option, Some}
use Prim.Native.Nat.{ℕ}
use mathlib.Core.Path.{◌≡◌, refl, sym, ap, ◌∙◌}
use mathlib.Core.Bool.{Bool, true, ◌&&◌, false≢true, and_assoc}
use mathlib.Core.List.Memᴰ
use mathlib.Core.List.{List}
use lib.Ieee.{unlike}
use Rattle.lists.specs.Lists.{◌∈◌, kept}
use Rattle.lists.proofs.ListLaws.{kept_in, in_kept, map_in, in_map}
use Rattle.lists.proofs.Bools.{and_first, and_second, both_ways}
use Rattle.neighbors.specs.Neighbors.{neighbours, adjacent}
use Rattle.neighbors.proofs.Adjacency.{neighbour_adjacent, adjacent_neighbour}
use Rattle.search.specs.Keys.{ascending}
use Rattle.table.specs.Table.{Row}
use Rattle.table.specs.Rows.{keys_of, stored}
use Rattle.table.proofs.StoredLaws.{ascending_rows, stored_in, in_stored}
use Rattle.rings.specs.Sides.{inside, weighted, opposed}
use Rattle.rings.specs.Rings.{any, weighted_of, weighted_at, beside_both, completed, joint_by, joint_scan, crosses_scan}
use Rattle.edges.specs.Surfaces.{edges_on}
use Rattle.edges.specs.declared.Surface.TheVariants.{Closed}
use Rattle.edges.proofs.EdgeLaws.{same_edges}
use Rattle.edges.proofs.ZeroCrossingLaws.{lattice}
use Rattle.tetrahedra.specs.Tetrahedra.{weighted_keys, tetrahedra}
use Rattle.tetrahedra.specs.ClosedEdges.{joint, crosses_in, closed_edges}
use Rattle.tetrahedra.specs.Near.{common, joint_near}
use Rattle.tetrahedra.proofs.ClosedEdgeLaws.{any_in, in_any}
use Rattle.tetrahedra.proofs.JointLaws.{common_in, in_common, joint_near_lem, joint_in}

module _ (rows : List Row) (up : ascending (keys_of rows) ≡ true) where
  -- a stored row of weight above 0, by its key
  weighted_at_lem : (r : Row) → r ∈ rows → weighted_at rows r.key ≡ weighted r
  unfolding weighted_at
  weighted_at_lem r m = rw (in_stored rows (ascending_rows rows up) r m)

  pub at_weighted : (k : ℕ) → k ∈ weighted_keys rows → weighted_at rows k ≡ true
  at_weighted k m =
      let j = map_in (λ (r : Row). r.key) (kept weighted rows) m in
      let i = kept_in weighted rows j.1 in
      ap (weighted_at rows) j.2 ∙ weighted_at_lem j.0 i.0 ∙ i.1

  pub weighted_in : (k : ℕ) → weighted_at rows k ≡ true → k ∈ weighted_keys rows
  unfolding weighted_at
  weighted_in k e = go (stored k rows) refl e
    where
      go : (o : Option Row) → stored k rows ≡ o → weighted_of o ≡ true → k ∈ weighted_keys rows
      go None q w = absurd (false≢true w)
      go (Some s) q w =
          let h = stored_in k rows q in
          Memᴰ.cast (sym h.1) (in_map (λ (r : Row). r.key) (kept weighted rows) (in_kept weighted rows h.0 w))

  module _ (k l : ℕ) where
    -- a neighbour of k with weight above 0 that is adjacent to l
    in_both : (m : ℕ) → m ∈ neighbours k → weighted_at rows m ≡ true → adjacent l m ≡ true → m ∈ common rows k l
    in_both m i w a = in_common rows up k l m (weighted_in m w) (neighbour_adjacent k m i) a

    to_near : joint_scan rows k l ≡ true → joint_near rows k l ≡ true
    unfolding joint_near joint_by completed beside_both
    to_near e =
        let p = any_in (completed (weighted_at rows) (neighbours k) l) (neighbours k) e in
        let m : ℕ = p.0 in
        let q = and_second (adjacent l m) _ p.2 in
        let r = any_in (beside_both (weighted_at rows) l m) (neighbours k) (and_second (weighted_at rows m) _ q) in
        let n : ℕ = r.0 in
        let t = and_second (adjacent l n) _ r.2 in
        in_any (λ (m : ℕ). any (adjacent m) (common rows k l)) (common rows k l) {x = m}
        (in_both m p.1 (and_first (weighted_at rows m) _ q) (and_first (adjacent l m) _ p.2))
        (in_any (adjacent m) (common rows k l) {x = n}
        (in_both n r.1 (and_second (adjacent m n) (weighted_at rows n) t) (and_first (adjacent l n) _ r.2))
        (and_first (adjacent m n) (weighted_at rows n) t))

    from_near : joint_near rows k l ≡ true → joint_scan rows k l ≡ true
    unfolding joint_near joint_by completed beside_both
    from_near e =
        let p = any_in (λ (m : ℕ). any (adjacent m) (common rows k l)) (common rows k l) e in
        let m : ℕ = p.0 in
        let r = any_in (adjacent m) (common rows k l) p.2 in
        let n : ℕ = r.0 in
        let a = common_in rows up k l m p.1 in
        let b = common_in rows up k l n r.1 in
        let both : beside_both (weighted_at rows) l m n ≡ true = rw (b.2, r.2, at_weighted n b.0) in
        let one = in_any (beside_both (weighted_at rows) l m) (neighbours k) {x = n} (adjacent_neighbour k n b.1) both in
        let whole : completed (weighted_at rows) (neighbours k) l m ≡ true = rw (a.2, at_weighted m a.0, one) in
        in_any (completed (weighted_at rows) (neighbours k) l) (neighbours k) {x = m} (adjacent_neighbour k m a.1) whole

    pub scan_near : joint_scan rows k l ≡ joint_near rows k l
    scan_near = both_ways _ _ to_near from_near

  -- of two stored rows that are adjacent, the test that the definition of the vertices uses
  pub crosses_scan_lem : (r s : Row) → r ∈ rows → s ∈ rows → adjacent r.key s.key ≡ true → crosses_in rows r s ≡ crosses_scan rows r s
  unfolding crosses_in crosses_scan opposed inside weighted
  crosses_scan_lem r s ir is a =
      ap (λ (b : Bool). unlike (inside r) (inside s) && b) (both_ways _ _ to from) ∙ sym (and_assoc (unlike (inside r) (inside s)) _ _)
    where
      to : joint (tetrahedra rows) r.key s.key ≡ true → ((weighted r && weighted s) && joint_scan rows r.key s.key) ≡ true
      to e =
          let w = joint_in rows up r.key s.key e in
          let x : weighted r ≡ true = sym (weighted_at_lem r ir) ∙ at_weighted r.key w.0 in
          let y : weighted s ≡ true = sym (weighted_at_lem s is) ∙ at_weighted s.key w.1 in
          rw (x, y, scan_near r.key s.key, ← joint_near_lem rows up r.key s.key w.0 w.1 a) e

      from : ((weighted r && weighted s) && joint_scan rows r.key s.key) ≡ true → joint (tetrahedra rows) r.key s.key ≡ true
      from e =
          let w = and_first (weighted r && weighted s) (joint_scan rows r.key s.key) e in
          let x = weighted_in r.key (weighted_at_lem r ir ∙ and_first (weighted r) (weighted s) w) in
          let y = weighted_in s.key (weighted_at_lem s is ∙ and_second (weighted r) (weighted s) w) in
          joint_near_lem rows up r.key s.key x y a ∙ sym (scan_near r.key s.key) ∙ and_second (weighted r && weighted s)
          (joint_scan rows r.key s.key) e

  -- the edges of the surface that closes are the crossed edges of tetrahedra
  pub closed_edges_scan : edges_on Closed rows ≡ closed_edges rows
  closed_edges_scan =
      same_edges neighbours adjacent rows lattice up (crosses_scan rows) (crosses_in rows) (λ r s i j a. sym (crosses_scan_lem r s i j a))
