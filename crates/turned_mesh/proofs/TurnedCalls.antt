-- What a caller of `extract_turned_mesh` has, by its answer: the lists hold the closed edges and the triangles turned outwards, which close, have one
-- winding, and look outwards; refused, they are zeros. Which answer it is, is the closed mesh's (`closed_refused_for_room`, `closed_room_enough` of mesh).
-- Assumes nothing.
use Rattle.std.specs.Prelude.{Ok, Err, Result}
use Prim.Native.Nat.{ℕ, ◌-◌}
use mathlib.Core.Path.{◌≡◌, refl, sym, ap, ◌∙◌}
use mathlib.Core.Bool.{true}
use mathlib.Core.List.{List, map}
use lib.Ieee.{Float}
use lib.ListN.{length, replicate}
use Rattle.floats.specs.Floats.{zero32}
use Rattle.lists.specs.Padding.{padded}
use Rattle.lists.specs.Threes.{Three, column0, column1, column2, threes_in}
use Rattle.lists.proofs.ThreeLaws.{threes_back}
use Rattle.refusals.specs.declared.Refusal.{Refusal}
use Rattle.search.specs.Keys.{ascending}
use Rattle.table.specs.Table.{Table, table, rows}
use Rattle.table.specs.Rows.{keys_of}
use Rattle.table.specs.declared.Settings.{Settings}
use Rattle.edges.specs.declared.Surface.TheVariants.{Closed}
use Rattle.groups.specs.CellEdges.{edges_in}
use Rattle.tetrahedra.specs.ClosedEdges.{closed_edges}
use Rattle.tetrahedra.specs.ClosedTriangles.{closed_triangles}
use Rattle.tetrahedra.specs.Closing.{ClosesBy}
use Rattle.winding.specs.Winding.{turned_triangles, OneWindingBy, OutwardBy}
use Rattle.winding.proofs.TurningLaws.{looks_outward}
use Rattle.winding.proofs.WindingLaws.{one_winding, turned_closes}
use Rattle.mesh.specs.declared.Rooms.{Rooms}
use Rattle.mesh.specs.Mesh.{mesh_answer_on, held_in, IsClosedMesh}
use Rattle.mesh.proofs.MeshLaws.{rise}
use Rattle.mesh.proofs.Calls.{done_on}
use Rattle.mesh.proofs.ClosedCalls.{edges_held, lists_wiped}
use Rattle.turned_mesh.specs.Turned.{IsTurnedMesh}
use Rattle.turned_mesh.proofs.CallLaws.{turned_length}

module _ (s : Settings) (ks : List ℕ) (ds ws : List Float) (cnt : ℕ) (r : Rooms) (a : Result (ℕ × ℕ) Refusal) (as' bs : List ℕ)
    (xs ys zs us vs ws' : List Float) (is js ls : List ℕ) (m : IsTurnedMesh s (table ks ds ws cnt) r a as' bs xs ys zs us vs ws' is js ls) where
  abbrev t : Table
  t = table ks ds ws cnt

  abbrev ts : List (Three ℕ)
  ts = turned_triangles (rows t)

  -- but for the triangles it is the closed mesh
  abbrev closed_column : (Three ℕ → ℕ) → ℕ → List ℕ
  closed_column column room = held_in 0 (mesh_answer_on Closed s t r) room (map column (closed_triangles (rows t)))

  pub as_closed : IsClosedMesh s t r a as' bs xs ys zs us vs ws' (closed_column (λ f. f.a) r.t0) (closed_column (λ f. f.b) r.t1)
      (closed_column (λ f. f.c) r.t2)
  as_closed =
      record {
        answer = m.answer;
        first = m.first;
        second = m.second;
        px = m.px;
        py = m.py;
        pz = m.pz;
        nx = m.nx;
        ny = m.ny;
        nz = m.nz;
        groups = m.groups;
        t0 = refl;
        t1 = refl;
        t2 = refl;
      }

  module _ (i j : ℕ) (e : a ≡ Ok (i, j)) where
    answered : mesh_answer_on Closed s t r ≡ Ok (i, j)
    answered = sym m.answer ∙ e

    up : ascending (keys_of (rows t)) ≡ true
    up = rise Closed s ks ds ws cnt r (done_on Closed s t r i j answered).0

    held : (room : ℕ) (found l : List ℕ) → l ≡ held_in 0 (mesh_answer_on Closed s t r) room found → l ≡ padded 0 room found
    unfolding held_in
    held room found l q = q ∙ ap (λ (w : Result (ℕ × ℕ) Refusal). held_in 0 w room found) answered

    -- The edges and the triangles, read back by the counts handed back.
    pub turned_edges_held : edges_in as' bs i ≡ closed_edges (rows t)
    turned_edges_held = edges_held s ks ds ws cnt r a as' bs xs ys zs us vs ws' _ _ _ as_closed i j e

    pub turned_triangles_held : threes_in is js ls j ≡ ts
    unfolding padded
    turned_triangles_held =
        rw (
          held r.t0 (column0 ts) is m.t0,
          held r.t1 (column1 ts) js m.t1,
          held r.t2 (column2 ts) ls
              m.t2,
          (done_on Closed s t r i j answered).3 ∙ sym (turned_length t),
        )
        (threes_back ts (replicate (r.t0 - length (column0 ts)) 0) (replicate (r.t1 - length (column1 ts)) 0) (replicate (r.t2 - length (column2 ts)) 0))

    -- Of the triangles that the lists hold, through every side inside a tetrahedron, or on a face that two share, exactly one runs one way and exactly one the
    -- other.
    pub lists_one_winding : OneWindingBy (rows t) (edges_in as' bs i) (threes_in is js ls j)
    lists_one_winding = rw (turned_edges_held, turned_triangles_held) (one_winding (rows t) up)

    -- Each looks outwards: the outside corners of its tetrahedron lie in front of it, the inside ones behind it.
    pub lists_outward : OutwardBy (rows t) (edges_in as' bs i) (threes_in is js ls j)
    lists_outward = rw (turned_edges_held, turned_triangles_held) (looks_outward (rows t) up)

    -- And they close, as No. 14's do.
    pub turned_lists_close : ClosesBy (rows t) (edges_in as' bs i) (threes_in is js ls j)
    turned_lists_close = rw (turned_edges_held, turned_triangles_held) (turned_closes (rows t) up)

  -- Refused, every place of every list is zero.
  module _ (why : Refusal) (e : a ≡ Err why) where
    wiped : (room : ℕ) (found l : List ℕ) → l ≡ held_in 0 (mesh_answer_on Closed s t r) room found → l ≡ replicate room 0
    unfolding held_in
    wiped room found l q = q ∙ ap (λ (w : Result (ℕ × ℕ) Refusal). held_in 0 w room found) (sym m.answer ∙ e)

    pub turned_lists_wiped : ((as' ≡ replicate r.first 0) × (bs ≡ replicate r.second 0))
        × (((xs ≡ replicate r.px zero32) × ((ys ≡ replicate r.py zero32) × (zs ≡ replicate r.pz zero32)))
        × (((us ≡ replicate r.nx zero32) × ((vs ≡ replicate r.ny zero32) × (ws' ≡ replicate r.nz zero32)))
        × ((is ≡ replicate r.t0 0) × ((js ≡ replicate r.t1 0) × (ls ≡ replicate r.t2 0)))))
    turned_lists_wiped =
        let w = lists_wiped s ks ds ws cnt r a as' bs xs ys zs us vs ws' _ _ _ as_closed why e in (
          w.0,
          (
            w.1.0,
            (
              w.1.1.0,
              (wiped r.t0 _ is m.t0, (wiped r.t1 _ js m.t1, wiped r.t2 _ ls m.t2)),
            ),
          ),
        )
