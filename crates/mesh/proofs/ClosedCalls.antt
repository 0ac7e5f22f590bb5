-- What a caller of `extract_closed_mesh` has, by its answer: the lists hold the vertex list and the triangle list of document 02's No. 14, and close; 6 is
-- answered exactly when a part would outgrow its own list, and never where lists of 458,752 and 786,432 places are lent.
-- Assumes nothing.
use Rattle.std.specs.Prelude.{Ok, Err, Result}
use Prim.Native.Nat.{ℕ, ◌-◌, ◌<◌, ◌≤◌, zero-le}
use native.Mathlib.Omega.{arith}
use mathlib.Core.Path.{◌≡◌, sym, ap, ◌∙◌}
use mathlib.Core.Logic.{◌⊎◌, inl, inr, ⊎_elim, ◌↔◌}
use mathlib.Core.Bool.{true}
use mathlib.Core.List.{List}
use lib.Ieee.{Float}
use lib.ListN.{length, replicate}
use borrow.Author.Tests.{le-leb}
use Rattle.floats.specs.Floats.{zero32}
use Rattle.lists.specs.Padding.{padded}
use Rattle.lists.specs.Threes.{Three, column0, column1, column2, threes_in}
use Rattle.lists.proofs.ThreeLaws.{threes_back}
use Rattle.search.specs.Keys.{ascending}
use Rattle.refusals.specs.declared.Refusal.{Refusal}
use Rattle.refusals.specs.declared.Refusal.TheVariants.{NoPlace}
use Rattle.table.specs.Table.{Table, table, rows}
use Rattle.table.specs.Rows.{keys_of}
use Rattle.table.specs.declared.Settings.{Settings}
use Rattle.edges.specs.Edges.{Edge}
use Rattle.edges.specs.Listing.{firsts, seconds}
use Rattle.edges.specs.declared.Surface.TheVariants.{Closed}
use Rattle.groups.specs.CellEdges.{edges_in}
use Rattle.groups.proofs.CountingLaws.{edges_back}
use Rattle.tetrahedra.specs.ClosedEdges.{closed_edges, IsVertexList}
use Rattle.tetrahedra.specs.ClosedTriangles.{closed_triangles}
use Rattle.tetrahedra.specs.ClosedTriangleList.{IsClosedTriangleList}
use Rattle.tetrahedra.specs.Closing.{ClosesBy}
use Rattle.tetrahedra.proofs.ClosedEdgeLaws.{vertices_are}
use Rattle.tetrahedra.proofs.ClosedTriangleLaws.{triangles_are}
use Rattle.tetrahedra.proofs.ClosingLaws.{closes}
use Rattle.tetrahedra.proofs.RoomLaws.{vertices_room, triangles_room}
use Rattle.mesh.specs.declared.Rooms.{Rooms}
use Rattle.mesh.specs.Mesh.{mesh_check, meshed_on, mesh_answer_on, held_in, IsClosedMesh}
use Rattle.mesh.proofs.MeshLaws.{rise, few_rows}
use Rattle.mesh.proofs.Calls.{done_on, refused_for_room_on}

module _ (s : Settings) (ks : List ℕ) (ds ws : List Float) (cnt : ℕ) (r : Rooms) where
  abbrev t : Table
  t = table ks ds ws cnt

  abbrev es : List Edge
  es = closed_edges (rows t)

  abbrev ts : List (Three ℕ)
  ts = closed_triangles (rows t)

  -- ---- refused for room

  -- Refused with 6 exactly when no earlier test refuses and edges, vertices or triangles would outgrow their own list.
  pub closed_refused_for_room : (mesh_answer_on Closed s t r ≡ Err NoPlace) ↔
      ((mesh_check s t r ≡ (Ok tt)) × ((r.first < length es) ⊎ ((r.px < length es) ⊎ (r.t0 < length ts))))
  closed_refused_for_room =
      let on = refused_for_room_on Closed s t r in (
        λ e. ((on.0 e).0, ⊎_elim (λ h. inl h) (λ w. ⊎_elim (λ h. inr (inl h)) (λ v. ⊎_elim (λ h. absurd (omega arith)) (λ h. inr (inr h)) v) w) (on.0 e).1),
        λ p. on.1 (p.0, ⊎_elim (λ h. inl h) (λ w. ⊎_elim (λ h. inr (inl h)) (λ h. inr (inr (inr h))) w) p.1),
      )

  module _ (pass : mesh_check s t r ≡ (Ok tt)) where
    up : ascending (keys_of (rows t)) ≡ true
    up = rise Closed s ks ds ws cnt r pass

    most : length (rows t) ≤ 65536
    most = few_rows Closed s ks ds ws cnt r pass

    -- Lists of 458,752 places for edges and vertices and of 786,432 for triangles always suffice.
    pub closed_room_enough : 458752 ≤ r.first → 458752 ≤ r.px → 786432 ≤ r.t0 → mesh_answer_on Closed s t r ≡ Ok (length es, length ts)
    unfolding mesh_answer_on meshed_on
    closed_room_enough a b c =
        let n = vertices_room (rows t) up most in
        let m = triangles_room (rows t) up most in
        rw (
          pass,
          le-leb (length es) r.first (omega arith),
          le-leb (length es) r.px (omega arith),
          le-leb 0 r.groups zero-le,
          le-leb (length ts) r.t0 (omega arith),
        )

  -- ---- a mesh

  module _ (i j : ℕ) (e : mesh_answer_on Closed s t r ≡ Ok (i, j)) where
    known : (mesh_check s t r ≡ (Ok tt)) × (i ≡ length es) × (j ≡ length ts)
    known = let d = done_on Closed s t r i j e in (d.0, d.2, d.3)

    -- The edges are those of the statement like demand 3's over tetrahedra, and so are the triangles; the counts are theirs.
    pub closed_edges_lem : IsVertexList (rows t) es × (i ≡ length es)
    closed_edges_lem = (vertices_are (rows t) (up known.0), known.1)

    pub closed_triangles_lem : IsClosedTriangleList (rows t) es ts × (j ≡ length ts)
    closed_triangles_lem = (triangles_are (rows t) (up known.0), known.2)

  -- ---- what the lists hold

  module _ (a : Result (ℕ × ℕ) Refusal) (as' bs : List ℕ) (xs ys zs us vs ws' : List Float) (is js ls : List ℕ)
      (m : IsClosedMesh s t r a as' bs xs ys zs us vs ws' is js ls) where
    module _ (i j : ℕ) (e : a ≡ Ok (i, j)) where
      answered : mesh_answer_on Closed s t r ≡ Ok (i, j)
      answered = sym m.answer ∙ e

      -- what was found, and zeros after it
      held : {A : Type 0} (v : A) (room : ℕ) (found l : List A) → l ≡ held_in v (mesh_answer_on Closed s t r) room found → l ≡ padded v room found
      unfolding held_in
      held v room found l q = q ∙ ap (λ (w : Result (ℕ × ℕ) Refusal). held_in v w room found) answered

      -- the edge list and the triangle list, and zeros after them
      pub lists_padded : ((as' ≡ padded 0 r.first (firsts es)) × (bs ≡ padded 0 r.second (seconds es)))
          × ((is ≡ padded 0 r.t0 (column0 ts)) × ((js ≡ padded 0 r.t1 (column1 ts)) × (ls ≡ padded 0 r.t2 (column2 ts))))
      lists_padded = (
        (held 0 r.first (firsts es) as' m.first, held 0 r.second (seconds es) bs m.second),
        (
          held 0 r.t0 (column0 ts) is m.t0,
          (held 0 r.t1 (column1 ts) js m.t1, held 0 r.t2 (column2 ts) ls m.t2),
        ),
      )

      -- read back by the counts handed back
      pub edges_held : edges_in as' bs i ≡ es
      unfolding padded
      edges_held =
          rw (lists_padded.0.0, lists_padded.0.1, (known i j answered).1)
          (edges_back es (replicate (r.first - length (firsts es)) 0) (replicate (r.second - length (seconds es)) 0))

      pub triangles_held : threes_in is js ls j ≡ ts
      unfolding padded
      triangles_held =
          rw (lists_padded.1.0, lists_padded.1.1.0, lists_padded.1.1.1, (known i j answered).2)
          (threes_back ts (replicate (r.t0 - length (column0 ts)) 0) (replicate (r.t1 - length (column1 ts)) 0) (replicate (r.t2 - length (column2 ts)) 0))

      -- Of the triangles that the lists hold, every side inside a tetrahedron, or on a face that two share, belongs to exactly two.
      pub lists_close : ClosesBy (rows t) (edges_in as' bs i) (threes_in is js ls j)
      lists_close = rw (edges_held, triangles_held) (closes (rows t) (up (known i j answered).0))

    -- Refused, every place of every list is zero.
    module _ (why : Refusal) (e : a ≡ Err why) where
      wiped : {A : Type 0} (v : A) (room : ℕ) (found l : List A) → l ≡ held_in v (mesh_answer_on Closed s t r) room found → l ≡ replicate room v
      unfolding held_in
      wiped v room found l q = q ∙ ap (λ (w : Result (ℕ × ℕ) Refusal). held_in v w room found) (sym m.answer ∙ e)

      pub lists_wiped : ((as' ≡ replicate r.first 0) × (bs ≡ replicate r.second 0))
          × (((xs ≡ replicate r.px zero32) × ((ys ≡ replicate r.py zero32) × (zs ≡ replicate r.pz zero32)))
          × (((us ≡ replicate r.nx zero32) × ((vs ≡ replicate r.ny zero32) × (ws' ≡ replicate r.nz zero32)))
          × ((is ≡ replicate r.t0 0) × ((js ≡ replicate r.t1 0) × (ls ≡ replicate r.t2 0)))))
      lists_wiped = (
        (wiped 0 r.first _ as' m.first, wiped 0 r.second _ bs m.second),
        (
          (wiped zero32 r.px _ xs m.px, (wiped zero32 r.py _ ys m.py, wiped zero32 r.pz _ zs m.pz)),
          (
            (wiped zero32 r.nx _ us m.nx, (wiped zero32 r.ny _ vs m.ny, wiped zero32 r.nz _ ws' m.nz)),
            (wiped 0 r.t0 _ is m.t0, (wiped 0 r.t1 _ js m.t1, wiped 0 r.t2 _ ls m.t2)),
          ),
        ),
      )
