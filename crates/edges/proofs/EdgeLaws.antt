-- Demand 3 of the edge list: it holds every pair of stored cells that are adjacent and cross, each once, the smaller key first, in document 01's
-- order, and no other; and it is the only list that does.
-- Assumes nothing.
use Rattle.std.specs.Prelude.{None, Option, Some}
use Prim.Native.Nat.{ℕ, ◌<◌, ◌≤◌}
use native.Mathlib.Nat.{le_of_lt, eq-or-lt_of_le, min-eq_left, min-eq_right, max-eq_left, max-eq_right}
use native.Mathlib.Omega.{arith}
use mathlib.Core.Path.{◌≡◌, refl, sym, ap, ap₂, ◌∙◌, subst}
use mathlib.Core.Logic.{◌⊎◌, inl, inr}
use mathlib.Core.Bool.{Bool, true, false≢true}
use mathlib.Core.List.Memᴰ
use mathlib.Core.List.{List}
use lib.Dec.{ltb}
use borrow.Author.Tests.{ltb-true, lt-ltb}
use Rattle.floats.proofs.Values.{le_or_lt}
use Rattle.lists.specs.Lists.{◌∈◌, Ordered, Distinct, Ahead, kept}
use Rattle.lists.proofs.ListLaws.{kept_in, in_kept, map_in, in_map, joined_in, in_joined, ordered_weaken, kept_ordered, map_ordered, joined_ordered, one_order, ahead_ordered, ahead_asym}
use Rattle.lists.proofs.Bools.{and_first, and_second}
use Rattle.search.specs.Keys.{ascending}
use Rattle.table.specs.Table.{Row}
use Rattle.table.specs.Rows.{keys_of, stored}
use Rattle.edges.specs.Edges.{Edge, edge, crosses_with, listed, edges_to, edges_of, edges}
use Rattle.edges.specs.EdgeList.{pair_of, SamePair, Neighbourhood, Symmetric, Before, Crossing, IsEdgeList}
use Rattle.table.proofs.StoredLaws.{ascending_rows, stored_in, in_stored}

-- a pair whose first key is the smaller, and one whose second is
pub pair_up : {a b : ℕ} → a < b → pair_of a b ≡ edge a b
pair_up {a} {b} l = ap₂ edge (min-eq_left (le_of_lt l)) (max-eq_right (le_of_lt l))

pub pair_down : {a b : ℕ} → b < a → pair_of a b ≡ edge b a
pair_down {a} {b} l = ap₂ edge (min-eq_right (le_of_lt l)) (max-eq_left (le_of_lt l))

-- of two edges only one comes first
pub before_asym : (near : ℕ → List ℕ) → ((k : ℕ) → Distinct (near k)) → (e f : Edge) → Before near e f → Before near f e → ⊥
before_asym near d e f (inl p) (inl q) = omega arith
before_asym near d e f (inl p) (inr q) = let h = q.0 in omega arith
before_asym near d e f (inr p) (inl q) = let h = p.0 in omega arith
before_asym near d e f (inr p) (inr q) =
    let back : Ahead (near e.first) f.second e.second = rw q.0 at q.1 in
    ahead_asym (near e.first) (d e.first) e.second f.second p.1 back

-- an edge that comes before another joins other cells
before_other :
    (near : ℕ → List ℕ)
    → ((k : ℕ) → Distinct (near k))
    → (e f : Edge)
    → e.first < e.second
    → f.first < f.second
    → Before near e f
    → SamePair e f
    → ⊥
before_other near d e f le lf b (inl p) =
    let same : e ≡ f = λ i. record { first = p.0 i; second = p.1 i } in
    let b' : Before near e e = rw (← same) at b in
    before_asym near d e e b' b'
before_other near d e f le lf b (inr p) = let h = p.0 in let g = p.1 in omega arith

module _ (near : ℕ → List ℕ) (adjacent : ℕ → ℕ → Bool) (crosses : Row → Row → Bool) (rows : List Row) where
  -- a row and a neighbour that are listed
  listed_in : (r : Row) (k : ℕ) → listed near crosses rows r k ≡ true → (s : Row) × (s ∈ rows) × (s.key ≡ k) × (crosses r s ≡ true) × (r.key < k)
  unfolding listed
  listed_in r k e = go (stored k rows) refl (and_second (ltb r.key k) _ e)
    where
      up : r.key < k
      up = ltb-true r.key k (and_first _ (crosses_with crosses r (stored k rows)) e)

      go : (o : Option Row) → stored k rows ≡ o → crosses_with crosses r o ≡ true → (s : Row) × (s ∈ rows) × (s.key ≡ k) × (crosses r s ≡ true) × (r.key < k)
      go None q c = absurd (false≢true c)
      go (Some s) q c = let h = stored_in k rows q in (s, h.0, h.1, c, up)

  module _ (nb : Neighbourhood near adjacent) where
    -- what is listed is two rows that cross, the smaller key first
    pub edges_in_lem :
        {e : Edge}
        → e ∈ edges near crosses rows
        → (r : Row) × (s : Row) × Crossing adjacent crosses rows r s × (r.key < s.key) × (e ≡ edge r.key s.key)
    unfolding edges edges_to
    edges_in_lem {e} m =
        let j = joined_in (edges_of near crosses rows) rows m in
        let r : Row = j.0 in
        let p = map_in (λ (k : ℕ). edge r.key k) (kept (listed near crosses rows r) (near r.key)) j.2 in
        let k : ℕ = p.0 in
        let q = kept_in (listed near crosses rows r) (near r.key) p.1 in
        let h = listed_in r k q.1 in
        let s : Row = h.0 in
        let near-s : s.key ∈ near r.key = Memᴰ.cast h.2 q.0 in (
          r,
          s,
          record { stored = j.1; beside = h.1; adjacency = (nb.exactly r.key s.key).0 near-s; crossing = h.3 },
          rw h.2 h.4,
          p.2 ∙ ap (edge r.key) (sym h.2),
        )

    module _ (up : Ordered (λ r s. r.key < s.key) rows) where
      -- two rows that cross, the smaller key first, are listed
      in_edges : (r s : Row) → Crossing adjacent crosses rows r s → r.key < s.key → edge r.key s.key ∈ edges near crosses rows
      unfolding edges edges_to listed
      in_edges r s c l =
          let test : listed near crosses rows r s.key ≡ true =
          rw (lt-ltb r.key s.key l, in_stored rows up s c.beside) c.crossing in
          in_joined (edges_of near crosses rows) rows c.stored
          (in_map (λ (k : ℕ). edge r.key k) (kept (listed near crosses rows r) (near r.key))
          (in_kept (listed near crosses rows r) (near r.key) ((nb.exactly r.key s.key).1 c.adjacency) test))

      -- what an earlier row lists comes before what a later one lists
      first_of : (r : Row) (e : Edge) → e ∈ edges_of near crosses rows r → (e.first ≡ r.key) × (e.second ∈ near r.key)
      unfolding edges_to
      first_of r e m =
          let p = map_in (λ (k : ℕ). edge r.key k) (kept (listed near crosses rows r) (near r.key)) m in
          (ap (λ (x : Edge). x.first) p.2, Memᴰ.cast (ap (λ (x : Edge). x.second) p.2) (kept_in (listed near crosses rows r) (near r.key) p.1).0)

      -- what one row lists stands in the order of its neighbours
      row_ordered : (r : Row) → Ordered (Before near) (edges_of near crosses rows r)
      unfolding edges_to
      row_ordered r =
          map_ordered (Before near) (λ (k : ℕ). edge r.key k) (kept (listed near crosses rows r) (near r.key))
          (ordered_weaken (Ahead (near r.key)) (λ k l. Before near (edge r.key k) (edge r.key l)) (kept (listed near crosses rows r) (near r.key))
          (λ k l p q a. inr (refl, a))
          (kept_ordered (Ahead (near r.key)) (listed near crosses rows r) (near r.key) (ahead_ordered (near r.key))))

      pub edges_ordered : Ordered (Before near) (edges near crosses rows)
      unfolding edges
      edges_ordered =
          joined_ordered (Before near) (edges_of near crosses rows) rows (λ r m. row_ordered r)
          (ordered_weaken (λ r s. r.key < s.key)
          (λ r s. (u v : Edge) → u ∈ edges_of near crosses rows r → v ∈ edges_of near crosses rows s → Before near u v)
          rows
          (λ r s p q l u v i j. let a = (first_of r u i).0 in let b = (first_of s v j).0 in inl (omega arith)) up)

-- two tests that agree on stored rows that are adjacent have the same edges
module _ (near : ℕ → List ℕ) (adjacent : ℕ → ℕ → Bool) (rows : List Row) (nb : Neighbourhood near adjacent) (up : ascending (keys_of rows) ≡ true) where
  abbrev Agree : (Row → Row → Bool) → (Row → Row → Bool) → Type 0
  Agree p q = (r s : Row) → r ∈ rows → s ∈ rows → adjacent r.key s.key ≡ true → p r s ≡ q r s

  stays : (p q : Row → Row → Bool) → Agree p q → (e : Edge) → e ∈ edges near p rows → e ∈ edges near q rows
  stays p q agree e m =
      let h = edges_in_lem near adjacent p rows nb m in
      let r : Row = h.0 in
      let s : Row = h.1 in
      let c = h.2 in
      let crossing : q r s ≡ true = sym (agree r s c.stored c.beside c.adjacency) ∙ c.crossing in
      Memᴰ.cast h.4
      (in_edges near adjacent q rows nb (ascending_rows rows up) r s
      (record { stored = c.stored; beside = c.beside; adjacency = c.adjacency; crossing = crossing }) h.3)

  pub same_edges : (p q : Row → Row → Bool) → Agree p q → edges near p rows ≡ edges near q rows
  same_edges p q agree =
      one_order (Before near) (before_asym near nb.once) (edges near p rows) (edges near q rows)
      (edges_ordered near adjacent p rows nb (ascending_rows rows up)) (edges_ordered near adjacent q rows nb (ascending_rows rows up))
      (stays p q agree) (stays q p (λ r s i j a. sym (agree r s i j a)))

module _ (near : ℕ → List ℕ) (adjacent : ℕ → ℕ → Bool) (crosses : Row → Row → Bool) (rows : List Row)
    (nb : Neighbourhood near adjacent) (both : Symmetric crosses) (up : ascending (keys_of rows) ≡ true) where
  rising : Ordered (λ r s. r.key < s.key) rows
  rising = ascending_rows rows up

  -- the same two rows, the other first
  swapped : (r s : Row) → Crossing adjacent crosses rows r s → Crossing adjacent crosses rows s r
  swapped r s c =
      record { stored = c.beside; beside = c.stored; adjacency = nb.both s.key r.key ∙ c.adjacency; crossing = both s r ∙ c.crossing }

  holds : (r s : Row) → Crossing adjacent crosses rows r s → pair_of r.key s.key ∈ edges near crosses rows
  holds r s c = go (le_or_lt r.key s.key)
    where
      upward : (r.key ≡ s.key) ⊎ (r.key < s.key) → pair_of r.key s.key ∈ edges near crosses rows
      upward (inl e) = absurd (false≢true (sym (nb.apart r.key) ∙ subst (λ (k : ℕ). adjacent r.key k ≡ true) (sym e) c.adjacency))
      upward (inr l) = Memᴰ.cast (pair_up l) (in_edges near adjacent crosses rows nb rising r s c l)

      go : (r.key ≤ s.key) ⊎ (s.key < r.key) → pair_of r.key s.key ∈ edges near crosses rows
      go (inl l) = upward (eq-or-lt_of_le l)
      go (inr l) = Memᴰ.cast (pair_down l) (in_edges near adjacent crosses rows nb rising s r (swapped r s c) l)

  smaller_first : (e : Edge) → e ∈ edges near crosses rows → e.first < e.second
  smaller_first e m = let h = edges_in_lem near adjacent crosses rows nb m in rw h.4 h.3

  -- demand 3 of the edge list
  pub edges_are : IsEdgeList near adjacent crosses rows (edges near crosses rows)
  edges_are =
      record {
        every = holds;
        only = λ e m. let h = edges_in_lem near adjacent crosses rows nb m in (h.0, h.1, h.2, h.4 ∙ sym (pair_up h.3));
        once =
            ordered_weaken (Before near) (λ e f. SamePair e f → ⊥) (edges near crosses rows)
            (λ e f p q b. before_other near nb.once e f (smaller_first e p) (smaller_first f q) b)
            (edges_ordered near adjacent crosses rows nb rising);
        smaller = smaller_first;
        ordered = edges_ordered near adjacent crosses rows nb rising;
      }

  -- no other list has it
  pub edges_only : (l : List Edge) → IsEdgeList near adjacent crosses rows l → l ≡ edges near crosses rows
  edges_only l h =
      one_order (Before near) (before_asym near nb.once) l (edges near crosses rows) h.ordered edges_are.ordered
      (λ e m. let c = h.only e m in Memᴰ.cast c.3 (edges_are.every c.0 c.1 c.2))
      (λ e m. let c = edges_are.only e m in Memᴰ.cast c.3 (h.every c.0 c.1 c.2))
