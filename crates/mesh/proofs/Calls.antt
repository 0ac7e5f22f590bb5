-- What a caller of `extract_mesh_from_tsdf` has, by its answer: the lists of a mesh meet demand 3, a cell's group is handed back from them, and 6 is
-- answered exactly when a part would outgrow its own list.
-- Assumes nothing.
use Rattle.std.specs.Prelude.{Ok, Err, Result}
use Prim.Native.Nat.{ℕ, ◌+◌, ◌-◌, ◌<◌}
use native.Mathlib.Omega.{arith}
use mathlib.Core.Path.{◌≡◌, refl, sym, ap, ◌∙◌}
use mathlib.Core.Logic.{◌⊎◌, inl, inr, ◌↔◌}
use mathlib.Core.Bool.{Bool, true, false, cond, ◌&&◌, false≢true}
use mathlib.Core.List.{List, ◌++◌}
use lib.Dec.{leb}
use lib.Ieee.{Float}
use lib.ListN.{length, replicate}
use borrow.Author.Tests.{leb-true, leb-false}
use Rattle.ids.specs.Key.{on_lattice}
use Rattle.lists.specs.Padding.{padded}
use Rattle.lists.proofs.Bools.{and_first, and_second, and_eq}
use Rattle.lists.proofs.PaddingLaws.{padded_length}
use Rattle.neighbors.specs.Neighbors.{neighbours, adjacent}
use Rattle.refusals.specs.declared.Refusal.{Refusal}
use Rattle.refusals.specs.declared.Refusal.TheVariants.{NoPlace}
use Rattle.table.specs.Table.{Table, table, rows}
use Rattle.table.specs.declared.Settings.{Settings}
use Rattle.table.proofs.Checking.{not_passed, with_spares}
use Rattle.edges.specs.Edges.{Edge}
use Rattle.edges.specs.EdgeList.{IsEdgeList}
use Rattle.edges.specs.ZeroCrossing.{crosses_zero}
use Rattle.edges.specs.declared.Surface.{Surface}
use Rattle.edges.specs.declared.Surface.TheVariants.{Open}
use Rattle.edges.specs.Listing.{firsts, seconds}
use Rattle.edges.proofs.ZeroCrossingLaws.{demand_3_edges}
use Rattle.groups.specs.Groups.{group_of}
use Rattle.groups.specs.CellEdges.{cell_edges}
use Rattle.groups.proofs.Handed.{groups_room, call_hands_group}
use Rattle.triangles.specs.TriangleList.{IsTriangleList}
use Rattle.triangles.proofs.Demand3.{zero_crossing_triangles}
use Rattle.mesh.specs.declared.Rooms.{Rooms}
use Rattle.mesh.specs.Mesh.{surface_edges, groups_on, triangles_on, edges_of, groups_of, triangles_of, rooms_ok, mesh_check, have_room_on, have_room, meshed_on, mesh_answer_on, mesh_answer, held_in}
use Rattle.mesh.proofs.OpenLaws.{pairs}
use Rattle.mesh.proofs.MeshLaws.{never, parts, passing, rise, rest_ok, fit}

-- ---- four rooms

-- one of four is too small
abbrev Outgrown : ℕ → ℕ → ℕ → ℕ → ℕ → ℕ → ℕ → Type 0
Outgrown n first px m groups k t0 = (first < n) ⊎ ((px < n) ⊎ ((groups < m) ⊎ (t0 < k)))

module _ (n first px m groups k t0 : ℕ) where
  small : (leb n first && (leb n px && (leb m groups && leb k t0))) ≡ false → Outgrown n first px m groups k t0
  small = go (leb n first) (leb n px) (leb m groups) (leb k t0) refl refl refl refl
    where
      go :
          (p q u v : Bool)
          → leb n first ≡ p
          → leb n px ≡ q
          → leb m groups ≡ u
          → leb k t0 ≡ v
          → (p && (q && (u && v))) ≡ false
          → Outgrown n first px m groups k t0
      go false q u v a b c d e = inl (leb-false n first a)
      go true false u v a b c d e = inr (inl (leb-false n px b))
      go true true false v a b c d e = inr (inr (inl (leb-false m groups c)))
      go true true true false a b c d e = inr (inr (inr (leb-false k t0 d)))
      go true true true true a b c d e = absurd (false≢true (sym e))

  outgrown : Outgrown n first px m groups k t0 → (leb n first && (leb n px && (leb m groups && leb k t0))) ≡ true → ⊥
  outgrown (inl h) e = let l = leb-true n first (and_first (leb n first) _ e) in omega arith
  outgrown (inr (inl h)) e = let l = leb-true n px (and_first (leb n px) _ (and_second (leb n first) _ e)) in omega arith
  outgrown (inr (inr (inl h))) e =
      let l = leb-true m groups (and_first (leb m groups) _ (and_second (leb n px) _ (and_second (leb n first) _ e))) in omega arith
  outgrown (inr (inr (inr h))) e =
      let l = leb-true k t0 (and_second (leb m groups) _ (and_second (leb n px) _ (and_second (leb n first) _ e))) in omega arith

-- ---- of any surface

module _ (o : Surface) (s : Settings) (t : Table) (r : Rooms) where
  -- what an answer that is a mesh tells
  done : (c : Result (Unit {0}) Refusal) (i j : ℕ)
      → meshed_on o c t r ≡ Ok (i, j)
      → (c ≡ (Ok tt)) × (have_room_on o t r ≡ true) × (i ≡ length (surface_edges o t)) × (j ≡ length (triangles_on o t))
  unfolding meshed_on
  done (Ok tt) i j e = go (have_room_on o t r) refl e
    where
      go :
          (b : Bool)
          → have_room_on o t r ≡ b
          → cond {A = Result (ℕ × ℕ) Refusal} b (Ok (length (surface_edges o t), length (triangles_on o t))) (Err NoPlace) ≡ Ok (i, j)
          → (◌≡◌ {A = Result (Unit {0}) Refusal} (Ok tt) (Ok tt)) × (have_room_on o t r ≡ true) × (i ≡ length (surface_edges o t)) × (j ≡ length (triangles_on o t))
      go true q f = let h = parts _ _ i j f in (refl, q, sym h.0, sym h.1)
      go false q f = absurd (never NoPlace i j f)
  done (Err why) i j e = absurd (never why i j e)

  pub done_on : (i j : ℕ)
      → mesh_answer_on o s t r ≡ Ok (i, j)
      → (mesh_check s t r ≡ (Ok tt)) × (have_room_on o t r ≡ true) × (i ≡ length (surface_edges o t)) × (j ≡ length (triangles_on o t))
  unfolding mesh_answer_on
  done_on i j e = done (mesh_check s t r) i j e

  abbrev outgrown_on : Type 0
  outgrown_on =
      Outgrown (length (surface_edges o t)) r.first r.px (length (groups_on o t)) r.groups (length (triangles_on o t)) r.t0

  refused : (c : Result (Unit {0}) Refusal) → (c ≡ Err NoPlace → ⊥) → (meshed_on o c t r ≡ Err NoPlace) ↔ ((c ≡ (Ok tt)) × outgrown_on)
  unfolding meshed_on
  refused (Ok tt) spare = (λ e. (refl, go (have_room_on o t r) refl e), λ p. back (have_room_on o t r) refl p.1)
    where
      go :
          (b : Bool)
          → have_room_on o t r ≡ b
          → cond {A = Result (ℕ × ℕ) Refusal} b (Ok (length (surface_edges o t), length (triangles_on o t))) (Err NoPlace) ≡ Err NoPlace
          → outgrown_on
      go true q e = absurd (never NoPlace (length (surface_edges o t)) (length (triangles_on o t)) (sym e))
      go false q e = small (length (surface_edges o t)) r.first r.px (length (groups_on o t)) r.groups (length (triangles_on o t)) r.t0 q

      back :
          (b : Bool)
          → have_room_on o t r ≡ b
          → outgrown_on
          → cond {A = Result (ℕ × ℕ) Refusal} b (Ok (length (surface_edges o t), length (triangles_on o t))) (Err NoPlace) ≡ Err NoPlace
      back true q w =
          absurd
          (outgrown (length (surface_edges o t)) r.first r.px (length (groups_on o t)) r.groups (length (triangles_on o t)) r.t0 w q)
      back false q w = refl
  refused (Err why) spare = (λ e. absurd (spare (cc)), λ p. absurd (not_passed why p.0))

  tests_spare_room : mesh_check s t r ≡ Err NoPlace → ⊥
  unfolding mesh_check
  tests_spare_room = with_spares (rooms_ok r) s t

  -- Refused with 6 exactly when no earlier test refuses and edges, vertices, groups or triangles would outgrow their own list.
  pub refused_for_room_on : (mesh_answer_on o s t r ≡ Err NoPlace) ↔
      ((mesh_check s t r ≡ (Ok tt))
      × ((r.first < length (surface_edges o t))
      ⊎ ((r.px < length (surface_edges o t)) ⊎ ((r.groups < length (groups_on o t)) ⊎ (r.t0 < length (triangles_on o t))))))
  unfolding mesh_answer_on
  refused_for_room_on = refused (mesh_check s t r) tests_spare_room

-- ---- of document 01's surface

module _ (s : Settings) (ks : List ℕ) (ds ws : List Float) (cnt : ℕ) (r : Rooms) where
  abbrev t : Table
  t = table ks ds ws cnt

  abbrev es : List Edge
  es = edges_of t

  pub refused_for_room : (mesh_answer s t r ≡ Err NoPlace) ↔
      ((mesh_check s t r ≡ (Ok tt))
      × ((r.first < length es)
      ⊎ ((r.px < length es) ⊎ ((r.groups < length (groups_of t)) ⊎ (r.t0 < length (triangles_of t))))))
  refused_for_room = refused_for_room_on Open s t r

  -- ---- a mesh

  module _ (i j : ℕ) (e : mesh_answer s t r ≡ Ok (i, j)) where
    known : (mesh_check s t r ≡ (Ok tt)) × (have_room t r ≡ true) × (i ≡ length es) × (j ≡ length (triangles_of t))
    known = done_on Open s t r i j e

    -- The edges and the triangles are those of demand 3, and the counts are theirs; each edge has two places in the groups.
    pub mesh_edges : IsEdgeList neighbours adjacent crosses_zero (rows t) es × (i ≡ length es)
    mesh_edges = (demand_3_edges (rows t) (rise Open s ks ds ws cnt r known.0), known.2)

    pub mesh_triangles : IsTriangleList es (triangles_of t) × (j ≡ length (triangles_of t))
    mesh_triangles = (zero_crossing_triangles (rows t) (rise Open s ks ds ws cnt r known.0), known.3)

    pub mesh_groups : length (groups_of t) ≡ i + i
    mesh_groups =
        let up = rise Open s ks ds ws cnt r known.0 in
        let n = groups_room neighbours adjacent crosses_zero (rows t) es up (demand_3_edges (rows t) up) in
        omega (arith, known.2)

    -- From the lists of a mesh, `cell_edges` hands back the cell's group.
    pub mesh_hands_group : (cell : ℕ) → on_lattice cell ≡ true →
        cell_edges (held_in 0 (mesh_answer s t r) r.groups (groups_of t))
        (held_in 0 (mesh_answer s t r) r.first (firsts es)) (held_in 0 (mesh_answer s t r) r.second (seconds es))
        i cell ≡ group_of es cell
    unfolding held_in padded
    mesh_hands_group cell on =
        let pass = known.0 in
        let up = rise Open s ks ds ws cnt r pass in
        let room = known.1 in
        let fits = leb-true (length es) r.first (and_first (leb (length es) r.first) _ room) in
        let enough =
        leb-true (length (groups_of t)) r.groups
        (and_first (leb (length (groups_of t)) r.groups) _
        (and_second (leb (length es) r.px) _ (and_second (leb (length es) r.first) _ room))) in
        let long : length (groups_of t ++ replicate (r.groups - length (groups_of t)) 0) ≡ r.groups = padded_length 0 r.groups (groups_of t) enough in
        let taken =
        and_eq (ap (λ (n : ℕ). leb n 1048576) long
        ∙ and_first (leb r.groups 1048576) _ (rest_ok Open s ks ds ws cnt r pass))
        (pairs (Ok tt) ks ds ws cnt r.first r.second (λ p. passing Open s ks ds ws cnt r pass) _ (fit Open s ks ds ws cnt r pass (Ok tt) refl) fits) in
        ap (λ (a : Result (ℕ × ℕ) Refusal). cell_edges (held_in 0 a r.groups (groups_of t)) (held_in 0 a r.first (firsts es)) (held_in 0 a r.second (seconds es)) i cell) e
        ∙ ap (λ (n : ℕ).
        cell_edges (groups_of t ++ replicate (r.groups - length (groups_of t)) 0)
        (firsts es ++ replicate (r.first - length (firsts es)) 0)
        (seconds es ++ replicate (r.second - length (seconds es)) 0) n cell) known.2
        ∙ call_hands_group neighbours adjacent crosses_zero (rows t) es up (demand_3_edges (rows t) up)
        (replicate (r.first - length (firsts es)) 0) (replicate (r.second - length (seconds es)) 0)
        (replicate (r.groups - length (groups_of t)) 0) cell on taken
