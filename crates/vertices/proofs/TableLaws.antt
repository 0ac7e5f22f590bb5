-- On an accepted table the search by halves finds the rows, so each edge of a list of its own has the vertex of its two rows.
-- Assumes nothing.
use Rattle.std.specs.Prelude.{Some, None, Option}
use Prim.Native.Nat.{ℕ, ◌<◌, min, max}
use native.Mathlib.Omega.{arith}
use mathlib.Core.Path.{◌≡◌, refl, ap, fun_ext, ◌∙◌}
use mathlib.Core.Logic.{⊎_elim}
use mathlib.Core.Bool.{Bool, true, cond}
use mathlib.Core.List.{List, [], ◌∷◌, map}
use borrow.Author.Tests.{lt-ltb}
use lib.Dec.{eqb}
use lib.Ieee.{Float, of_bits}
use lib.ListN.{length, take}
use Rattle.lists.specs.Lists.{◌∈◌}
use Rattle.lists.proofs.Bools.{cases, and_first, and_second}
use Rattle.ids.specs.Key.{on_lattice}
use Rattle.floats.specs.Floats.{million, is_finite}
use Rattle.floats.proofs.Order.{within_finite}
use Rattle.floats.proofs.Values.{le_or_lt}
use Rattle.search.specs.Keys.{ascending, find_by}
use Rattle.table.specs.Table.{Row, rows_of, row_ok, rows_ok, table}
use Rattle.table.specs.Rows.{keys_of, stored}
use Rattle.neighbors.specs.Neighbors.{neighbours}
use Rattle.edges.specs.Edges.{Edge, edge, edges}
use Rattle.edges.specs.EdgeList.{Symmetric}
use Rattle.edges.specs.ZeroCrossing.{crosses_zero, zero_crossing_edges}
use Rattle.edges.specs.Listing.{firsts, seconds}
use Rattle.edges.specs.Steps.{Accepted}
use Rattle.edges.proofs.EdgeLaws.{pair_up, pair_down}
use Rattle.table.proofs.StoredLaws.{ascending_rows, in_stored}
use Rattle.edges.proofs.ListingLaws.{place_below, none_stored, one_stored}
use Rattle.edges.proofs.ZeroCrossingLaws.{demand_3_over, crosses_either}
use Rattle.slopes.specs.declared.Vertex.{Vertex}
use Rattle.slopes.specs.Stored.{Lookup, distance_at, distance_by, or_zero}
use Rattle.vertices.specs.StoredRows.{distance_of, distance_in}
use Rattle.slopes.specs.Vertices.{vertex_at, vertices_of}
use Rattle.slopes.specs.Normals.{normals_of}
use Rattle.vertices.specs.EdgeVertices.{EdgeVertex}

-- ---- the lookup by halves is the lookup among the rows

module _ (ks : List ℕ) (ds ws : List Float) (n : ℕ) (acc : Accepted (table ks ds ws n)) where
  by_found : (key : ℕ) (f : Option ℕ) → f ≡ find_by key (take n ks) → distance_at ds f ≡ distance_in (rows_of ks ds ws n) key
  unfolding distance_at distance_of
  by_found key (Some i) e =
      let h : i < length ds = omega (arith, place_below ks ds ws n acc key (Some i) e i refl, acc.fits, acc.distances) in
      rw (lt-ltb i (length ds) h, one_stored ks ds ws n acc key (Some i) e i refl)
  by_found key None e = rw (none_stored ks ds ws n acc key None e refl)

  pub distance_by_lem : distance_by ks ds n ≡ distance_in (rows_of ks ds ws n)
  distance_by_lem = fun_ext (λ key. by_found key (find_by key (take n ks)) refl)

-- ---- what is stored in accepted rows is finite, and so is 0 for what is not

row_finite : (most : Float) (k : ℕ) (d w : Float) → row_ok most k d w ≡ true → is_finite d ≡ true
row_finite most k d w h = within_finite million d (unfold of_bits in refl) (and_first _ _ (and_second (on_lattice k) _ h))

pub stored_finite : (most : Float) (rows : List Row) → rows_ok most rows ≡ true → (key : ℕ) → is_finite (or_zero (distance_in rows key)) ≡ true
unfolding stored distance_of or_zero rows_ok of_bits
stored_finite most [] h key = refl
stored_finite most (r ∷ rs) h key =
    cases (λ (b : Bool). is_finite (or_zero (distance_of (cond b (Some r) (stored key rs)))) ≡ true) (eqb r.key key)
    (λ e. row_finite most r.key r.distance r.weight (and_first _ _ h))
    (λ e. stored_finite most rs (and_second (row_ok most r.key r.distance r.weight) _ h) key)

-- ---- an edge list by its two columns

module _ (look : Lookup) (size : Float) where
  pub vertices_of_edges : (es : List Edge) → vertices_of look size (firsts es) (seconds es) ≡ map (λ (e : Edge). vertex_at look size e.first e.second) es
  unfolding vertices_of
  vertices_of_edges [] = refl
  vertices_of_edges (e ∷ es) = ap {B = List Vertex} (λ vs. vertex_at look size e.first e.second ∷ vs) (vertices_of_edges es)

-- on an accepted table, as document 01 says it over the rows
module _ (ks : List ℕ) (ds ws : List Float) (n : ℕ) (acc : Accepted (table ks ds ws n)) (size : Float) (es : List Edge) where
  pub own_vertices : vertices_of (distance_by ks ds n) size (firsts es) (seconds es)
      ≡ map (λ (e : Edge). vertex_at (distance_in (rows_of ks ds ws n)) size e.first e.second) es
  own_vertices =
      ap (λ (look : Lookup). vertices_of look size (firsts es) (seconds es)) (distance_by_lem ks ds ws n acc)
      ∙ vertices_of_edges (distance_in (rows_of ks ds ws n)) size es

  pub own_normals : normals_of (distance_by ks ds n) size (firsts es) ≡ normals_of (distance_in (rows_of ks ds ws n)) size (firsts es)
  own_normals = ap (λ (look : Lookup). normals_of look size (firsts es)) (distance_by_lem ks ds ws n acc)

-- ---- each edge of a list of the table's own has the vertex of its two rows

module _ (size : Float) (rows : List Row) (up : ascending (keys_of rows) ≡ true) where
  found_row : (r : Row) → r ∈ rows → or_zero (distance_in rows r.key) ≡ r.distance
  unfolding or_zero distance_of
  found_row r m = rw (in_stored rows (ascending_rows rows up) r m)

  both_found :
      (r s : Row)
      → r ∈ rows
      → s ∈ rows
      → (e : Edge)
      → e ≡ edge r.key s.key
      → EdgeVertex rows size e (vertex_at (distance_in rows) size e.first e.second)
  unfolding vertex_at
  both_found r s m o e q =
      record {
        one = r;
        other = s;
        stored = m;
        beside = o;
        joins = q;
        place = rw (q, found_row r m, found_row s o);
      }

  -- for the edges by any symmetric test
  pub edge_vertex_over :
      (crosses : Row → Row → Bool)
      → Symmetric crosses
      → (e : Edge)
      → e ∈ edges neighbours crosses rows
      → EdgeVertex rows size e (vertex_at (distance_in rows) size e.first e.second)
  edge_vertex_over crosses both e m =
      let list = demand_3_over crosses both rows up in
      let w = list.only e m in
      let r = w.0 in
      let s = w.1 in
      let x = w.2 in
      let l : min r.key s.key < max r.key s.key = rw w.3 at (list.smaller e m) in
      ⊎_elim
      (λ h. both_found s r x.beside x.stored e (w.3 ∙ pair_down (omega arith)))
      (λ h. both_found r s x.stored x.beside e (w.3 ∙ pair_up h))
      (le_or_lt s.key r.key)

  -- for the zero-crossing edges
  pub edge_vertex : (e : Edge) → e ∈ zero_crossing_edges rows → EdgeVertex rows size e (vertex_at (distance_in rows) size e.first e.second)
  edge_vertex = edge_vertex_over crosses_zero crosses_either
