-- The vertex list holds every crossed edge of a tetrahedron of the table, each once, smaller key first, in document 01's order, and no other; no other
-- list does.
-- Assumes nothing.
use mathlib.Core.Path.{◌≡◌, refl, sym, ap, ◌∙◌}
use mathlib.Core.Logic.{⊎_elim}
use mathlib.Core.Bool.{Bool, true, false, ◌&&◌, false≢true, and_comm}
use mathlib.Core.List.Memᴰ
use mathlib.Core.List.{List, [], ◌∷◌}
use lib.Ieee.{unlike}
use Rattle.lists.specs.Lists.{◌∈◌, Distinct}
use Rattle.lists.proofs.ListLaws.{one_order, ordered_weaken}
use Rattle.lists.proofs.Bools.{and_first, and_second, or_cases}
use Rattle.neighbors.specs.Neighbors.{neighbours, adjacent}
use Rattle.neighbors.proofs.Adjacency.{neighbours_distinct}
use Rattle.search.specs.Keys.{ascending}
use Rattle.table.specs.Table.{Row}
use Rattle.table.specs.Rows.{keys_of}
use Rattle.rings.specs.Sides.{inside}
use Rattle.rings.specs.Rings.{any}
use Rattle.edges.specs.Edges.{Edge, edges}
use Rattle.edges.specs.EdgeList.{pair_of, Symmetric, Before, IsEdgeList}
use Rattle.table.proofs.StoredLaws.{ascending_rows, in_stored}
use Rattle.edges.proofs.EdgeLaws.{before_asym, edges_ordered}
use Rattle.edges.proofs.ZeroCrossingLaws.{unlike_comm, lattice, demand_3_over}
use Rattle.tetrahedra.specs.Fours.{Four, Corner, at, holds}
use Rattle.tetrahedra.specs.Tetrahedra.{tetrahedra}
use Rattle.tetrahedra.specs.ClosedEdges.{inside_at, joint, crosses_in, closed_edges, Crossed, IsVertexList}
use Rattle.tetrahedra.proofs.Corners.{or_first_true, or_second_true, holds_corner, corner_holds, corners_differ, corners_adjacent}
use Rattle.tetrahedra.proofs.TetrahedronLaws.{rising_in, clique_in, corner_in, row_of}

-- ---- tests

module _ {A : Type 0} where
  any_same : (f g : A → Bool) (l : List A) → ((x : A) → f x ≡ g x) → any f l ≡ any g l
  unfolding any
  any_same f g [] h = refl
  any_same f g (x ∷ xs) h = rw (h x, any_same f g xs h)

  pub any_in : (f : A → Bool) (l : List A) → any f l ≡ true → (x : A) × (x ∈ l) × (f x ≡ true)
  unfolding any
  any_in f [] e = absurd (false≢true e)
  any_in f (x ∷ xs) e =
      ⊎_elim (λ p. (x, Memᴰ.head refl, p)) (λ r. let i = any_in f xs r in (i.0, Memᴰ.tail i.1, i.2)) (or_cases (f x) (any f xs) e)

  pub in_any : (f : A → Bool) (l : List A) {x : A} → x ∈ l → f x ≡ true → any f l ≡ true
  unfolding any
  in_any f [] m e = absurd (Memᴰ.not-nil m)
  in_any f (y ∷ ys) {x} m e =
      ⊎_elim (λ q. or_first_true (f y) (any f ys) (ap f (sym q) ∙ e)) (λ n. or_second_true (f y) (any f ys) (in_any f ys n e)) (Memᴰ.cases_cons m)

-- two rows cross whichever is named first
pub crosses_either : (rows : List Row) → Symmetric (crosses_in rows)
unfolding crosses_in joint
crosses_either rows r s =
    rw (
      unlike_comm (inside r) (inside s),
      any_same (λ (t : Four). holds r.key t && holds s.key t) (λ (t : Four). holds s.key t && holds r.key t) (tetrahedra rows)
          (λ t. and_comm (holds r.key t) (holds s.key t)),
    )

-- no edge stands twice, whatever two rows cross
pub edges_once : (crosses : Row → Row → Bool) (rows : List Row) → ascending (keys_of rows) ≡ true → Distinct (edges neighbours crosses rows)
edges_once crosses rows up =
    ordered_weaken (Before neighbours) (λ e f. e ≡ f → ⊥) (edges neighbours crosses rows)
    (λ e f p q b s. let self : Before neighbours e e = rw (← s) at b in before_asym neighbours neighbours_distinct e e self self)
    (edges_ordered neighbours adjacent crosses rows lattice (ascending_rows rows up))

module _ (rows : List Row) (up : ascending (keys_of rows) ≡ true) where
  -- demand 3 of the list, over this test of two rows
  pub edges_are : IsEdgeList neighbours adjacent (crosses_in rows) rows (closed_edges rows)
  edges_are = demand_3_over (crosses_in rows) (crosses_either rows) rows up

  -- inside by the row and inside by its key
  pub inside_at_lem : (r : Row) → r ∈ rows → inside_at rows r.key ≡ inside r
  unfolding inside_at
  inside_at_lem r m = rw (in_stored rows (ascending_rows rows up) r m)

  -- a crossed edge of a tetrahedron is two rows that cross
  pub crossed_in : (t : Four) (i j : Corner) → Crossed rows t i j → pair_of (at t i) (at t j) ∈ closed_edges rows
  unfolding crosses_in joint
  crossed_in t i j h =
      let m = h.listed in
      let p = row_of rows (at t i) (corner_in rows up t m i) in
      let q = row_of rows (at t j) (corner_in rows up t m j) in
      let r : Row = p.0 in
      let s : Row = q.0 in
      let apart : unlike (inside r) (inside s) ≡ true =
      rw (← inside_at_lem r p.1, ← inside_at_lem s q.1, ← p.2, ← q.2) h.crossed in
      let un : at t i ≡ at t j → ⊥ = λ e. false≢true (sym (self (inside_at rows (at t i))) ∙ rw (← e) at h.crossed) in
      let beside : adjacent r.key s.key ≡ true =
      rw (← p.2, ← q.2) (corners_adjacent t (clique_in rows up t m) i j (corners_differ t (rising_in rows up t m) i j un)) in
      let both : (holds r.key t && holds s.key t) ≡ true = rw (corner_holds t i p.2, corner_holds t j q.2) in
      let one : joint (tetrahedra rows) r.key s.key ≡ true =
      in_any (λ (t : Four). holds r.key t && holds s.key t) (tetrahedra rows) m both in
      let cross : crosses_in rows r s ≡ true = rw (apart, one) in
      rw (p.2, q.2) (edges_are.every r s (record { stored = p.1; beside = q.1; adjacency = beside; crossing = cross }))
    where
      self : (b : Bool) → unlike b b ≡ false
      self true = refl
      self false = refl

  -- and an edge of the list is a crossed edge of a tetrahedron
  pub in_crossed : (e : Edge) → e ∈ closed_edges rows → (t : Four) × (i : Corner) × (j : Corner) × Crossed rows t i j × (e ≡ pair_of (at t i) (at t j))
  unfolding crosses_in joint
  in_crossed e m =
      let h = edges_are.only e m in
      let r : Row = h.0 in
      let s : Row = h.1 in
      let c = h.2 in
      let apart = and_first (unlike (inside r) (inside s)) _ c.crossing in
      let one = any_in (λ (t : Four). holds r.key t && holds s.key t) (tetrahedra rows) (and_second (unlike (inside r) (inside s)) _ c.crossing) in
      let t : Four = one.0 in
      let i = holds_corner r.key t (and_first (holds r.key t) (holds s.key t) one.2) in
      let j = holds_corner s.key t (and_second (holds r.key t) (holds s.key t) one.2) in
      (t, i.0, j.0, record { listed = one.1; crossed = rw (i.1, j.1, inside_at_lem r c.stored, inside_at_lem s c.beside) apart }, rw (i.1, j.1) h.3)

  -- the vertex list is as it is to be
  pub vertices_are : IsVertexList rows (closed_edges rows)
  vertices_are = record { every = crossed_in; only = in_crossed; once = edges_are.once; smaller = edges_are.smaller; ordered = edges_are.ordered }

  -- no other list is
  pub vertices_only : (l : List Edge) → IsVertexList rows l → l ≡ closed_edges rows
  vertices_only l h =
      one_order (Before neighbours) (before_asym neighbours neighbours_distinct) l (closed_edges rows) h.ordered edges_are.ordered
      (λ e m. let c = h.only e m in Memᴰ.cast c.4 (crossed_in c.0 c.1 c.2 c.3))
      (λ e m. let c = in_crossed e m in Memᴰ.cast c.4 (h.every c.0 c.1 c.2 c.3))

  -- no edge stands twice
  pub edges_distinct : Distinct (closed_edges rows)
  edges_distinct = edges_once (crosses_in rows) rows up
