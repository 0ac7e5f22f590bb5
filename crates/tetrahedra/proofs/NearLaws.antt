-- The tetrahedra from each cell's own neighbourhood are the tetrahedra of the table, in the same order.
-- Assumes nothing.
use Prim.Native.Nat.{ℕ, ◌<◌}
use native.Mathlib.Omega.{arith}
use mathlib.Core.Path.{◌≡◌, refl, ap}
use mathlib.Core.Logic.{inl, inr}
use mathlib.Core.Bool.{true, ◌&&◌}
use mathlib.Core.List.{List}
use lib.Dec.{ltb}
use borrow.Author.Tests.{ltb-true, lt-ltb}
use Rattle.lists.specs.Lists.{◌∈◌, Ordered, kept}
use Rattle.lists.proofs.ListLaws.{kept_in, in_kept, map_in, in_map, joined_in, in_joined, kept_ordered, map_ordered, joined_ordered, ordered_weaken}
use Rattle.lists.proofs.Bools.{and_first, and_second}
use Rattle.neighbors.specs.Neighbors.{adjacent}
use Rattle.search.specs.Keys.{ascending}
use Rattle.table.specs.Table.{Row}
use Rattle.table.specs.Rows.{keys_of}
use Rattle.lists.specs.Threes.{Three, three, Dictionary, threes}
use Rattle.lists.proofs.ThreeLaws.{threes_in_lem, in_threes, threes_ordered}
use Rattle.tetrahedra.specs.Fours.{Four, before, Dictionary4}
use Rattle.tetrahedra.specs.Tetrahedra.{weighted_keys, tetrahedra}
use Rattle.tetrahedra.specs.TetrahedronList.{Complete, IsTetrahedronList}
use Rattle.tetrahedra.specs.Near.{higher, close, starting_at, near_tetrahedra}
use Rattle.tetrahedra.proofs.FourLaws.{dictionary4_asym}
use Rattle.tetrahedra.proofs.Lattice.{tetrahedron_clique, clique_tetrahedron}
use Rattle.tetrahedra.proofs.TetrahedronLaws.{weighted_up, tetrahedra_only}

module _ (rows : List Row) (up : ascending (keys_of rows) ≡ true) where
  pub higher_in : (k l : ℕ) → l ∈ higher rows k → (l ∈ weighted_keys rows) × (k < l) × (adjacent k l ≡ true)
  unfolding higher
  higher_in k l m =
      let p = kept_in (λ (l : ℕ). ltb k l && adjacent k l) (weighted_keys rows) m in
      (p.0, ltb-true k l (and_first (ltb k l) (adjacent k l) p.1), and_second (ltb k l) (adjacent k l) p.1)

  pub in_higher : (k l : ℕ) → l ∈ weighted_keys rows → k < l → adjacent k l ≡ true → l ∈ higher rows k
  unfolding higher
  in_higher k l m h a = in_kept (λ (l : ℕ). ltb k l && adjacent k l) (weighted_keys rows) m (rw (lt-ltb k l h, a))

  pub higher_up : (k : ℕ) → Ordered ◌<◌ (higher rows k)
  unfolding higher
  higher_up k = kept_ordered ◌<◌ (λ (l : ℕ). ltb k l && adjacent k l) (weighted_keys rows) (weighted_up rows up)

  pub starting_in : (k : ℕ) → k ∈ weighted_keys rows → (t : Four) → t ∈ starting_at rows k → Complete rows t × (t.a ≡ k)
  unfolding starting_at close
  starting_in k i t m =
      let j = map_in (before k) (kept close (threes (higher rows k))) m in
      let s : Three ℕ = j.0 in
      let p = kept_in close (threes (higher rows k)) j.1 in
      let q = threes_in_lem (higher rows k) (higher_up k) s p.0 in
      let a = higher_in k s.a q.0 in
      let b = higher_in k s.b q.1 in
      let c = higher_in k s.c q.2 in
      let ab = adjacent s.a s.b in
      let ac = adjacent s.a s.c in
      let bc = adjacent s.b s.c in
      let r = and_second ab (ac && bc) p.1 in
      let done : Complete rows (before k s) =
      record {
        rising = record { a_b = a.1; b_c = q.3; c_d = q.4 };
        a_in = i;
        b_in = a.0;
        c_in = b.0;
        d_in = c.0;
        shape = clique_tetrahedron (before k s) (record {
          kl = a.2;
          km = b.2;
          kn = c.2;
          lm = and_first ab (ac && bc) p.1;
          ln = and_first ac bc r;
          mn = and_second ac bc r;
        });
      } in
      (rw j.2 done, ap (λ (x : Four). x.a) j.2)

  in_starting : (t : Four) → Complete rows t → t ∈ starting_at rows t.a
  unfolding starting_at close
  in_starting t h =
      let c = tetrahedron_clique t h.shape in
      let ab = h.rising.a_b in
      let bc = h.rising.b_c in
      let cd = h.rising.c_d in
      let s : Three ℕ = three t.b t.c t.d in
      let low : t.a < t.c = omega arith in
      let lower : t.a < t.d = omega arith in
      let m : s ∈ threes (higher rows t.a) =
      in_threes (higher rows t.a) (higher_up t.a) s (in_higher t.a t.b h.b_in ab c.kl) (in_higher t.a t.c h.c_in low c.km)
      (in_higher t.a t.d h.d_in lower c.kn) bc cd in
      in_map (before t.a) (kept close (threes (higher rows t.a))) (in_kept close (threes (higher rows t.a)) m (rw (c.lm, c.ln, c.mn)))

  each_ordered : (k : ℕ) → Ordered Dictionary4 (starting_at rows k)
  unfolding starting_at
  each_ordered k =
      map_ordered Dictionary4 (before k) (kept close (threes (higher rows k)))
      (ordered_weaken Dictionary (λ s t. Dictionary4 (before k s) (before k t)) (kept close (threes (higher rows k))) (λ s t p q d. inr (refl, d))
      (kept_ordered Dictionary close (threes (higher rows k)) (threes_ordered (higher rows k) (higher_up k))))

  near_ordered : Ordered Dictionary4 (near_tetrahedra rows)
  unfolding near_tetrahedra
  near_ordered =
      joined_ordered Dictionary4 (starting_at rows) (weighted_keys rows) (λ k m. each_ordered k)
      (ordered_weaken ◌<◌ (λ k l. (t u : Four) → t ∈ starting_at rows k → u ∈ starting_at rows l → Dictionary4 t u) (weighted_keys rows)
      (λ k l p q h t u i j.
      let a = (starting_in k p t i).1 in
      let b = (starting_in l q u j).1 in
      inl (omega arith)) (weighted_up rows up))

  near_are : IsTetrahedronList rows (near_tetrahedra rows)
  unfolding near_tetrahedra
  near_are =
      record {
        every = λ t h. in_joined (starting_at rows) (weighted_keys rows) h.a_in (in_starting t h);
        only = λ t m. let j = joined_in (starting_at rows) (weighted_keys rows) m in (starting_in j.0 j.1 t j.2).0;
        once =
            ordered_weaken Dictionary4 (λ t u. t ≡ u → ⊥) (near_tetrahedra rows)
            (λ t u p q d e. let same : Dictionary4 t t = rw (← e) at d in dictionary4_asym t t same same) near_ordered;
        ordered = near_ordered;
      }

  -- the same list
  pub near_same : near_tetrahedra rows ≡ tetrahedra rows
  near_same = tetrahedra_only rows up (near_tetrahedra rows) near_are
