-- From the closed mesh to the turned one: the lists that the closed call leaves are ready to be turned, and turned they are the turned mesh's.
-- Assumes nothing.
use Rattle.std.specs.Prelude.{Ok, Err, Result}
use Prim.Native.Nat.{ℕ, ◌-◌, ◌≤◌}
use native.Mathlib.Omega.{arith}
use mathlib.Core.Path.{◌≡◌, refl, sym, ap, ap₂, ◌∙◌}
use mathlib.Core.Bool.{Bool, true, false, ◌&&◌}
use mathlib.Core.List.{List, [], ◌∷◌, ◌++◌, map}
use lib.Dec.{eqb, leb}
use lib.Ieee.{Float}
use lib.ListN.{length, replicate, drop, length-map}
use lib.Seq.{drop_at}
use borrow.Author.Tests.{leb-true, eqb-true}
use Rattle.lists.specs.Padding.{padded}
use Rattle.lists.specs.Threes.{Three, column0, column1, column2}
use Rattle.lists.proofs.Bools.{and_first, and_second}
use Rattle.lists.proofs.PaddingLaws.{padded_length}
use Rattle.table.specs.Table.{Table, table, rows}
use Rattle.table.specs.declared.Settings.{Settings}
use Rattle.edges.specs.Edges.{Edge}
use Rattle.edges.specs.Listing.{firsts, seconds}
use Rattle.edges.specs.Steps.{Accepted}
use Rattle.edges.specs.declared.Surface.TheVariants.{Closed}
use Rattle.tetrahedra.specs.ClosedEdges.{closed_edges}
use Rattle.tetrahedra.specs.ClosedTriangles.{closed_triangles}
use Rattle.winding.specs.Winding.{looks_in, turn_if, outwards, turned_triangles}
use Rattle.mesh.specs.declared.Rooms.{Rooms}
use Rattle.mesh.specs.Mesh.{mesh_check, have_room_on, mesh_answer_on, held_in, IsClosedMesh}
use Rattle.mesh.proofs.MeshLaws.{acc as passed-mesh, rest_ok}
use Rattle.mesh.proofs.Calls.{done_on}
use Rattle.mesh.proofs.ClosedCalls.{lists_padded, edges_held, triangles_held}
use Rattle.turned_mesh.specs.Turned.{IsTurnedMesh}
use Rattle.turning.specs.Steps.{Ready}
use Rattle.turned_mesh.specs.Steps.{turned_for}
use Rattle.refusals.specs.declared.Refusal.{Refusal}

-- ---- columns

-- turning leaves the first vertex
stays : (b : Bool) (t : Three ℕ) → (turn_if b t).a ≡ t.a
unfolding turn_if
stays true t = refl
stays false t = refl

first_stays : (f : Three ℕ → Bool) (l : List (Three ℕ)) → column0 (map (λ (t : Three ℕ). turn_if (f t) t) l) ≡ column0 l
first_stays f [] = refl
first_stays f (x ∷ xs) = ap₂ {C = List ℕ} (λ v r. v ∷ r) (stays (f x) x) (first_stays f xs)

turned_first : (t : Table) → column0 (turned_triangles (rows t)) ≡ column0 (closed_triangles (rows t))
unfolding turned_triangles
turned_first t = first_stays (looks_in (rows t) (closed_edges (rows t))) (closed_triangles (rows t))

pub turned_length : (t : Table) → length (turned_triangles (rows t)) ≡ length (closed_triangles (rows t))
unfolding turned_triangles
turned_length t = length-map (closed_triangles (rows t)) (outwards (rows t) (closed_edges (rows t)))

-- a column in place of another of its length
swapped_column : (old new l : List ℕ) (room j : ℕ) → l ≡ padded 0 room old → length old ≡ j → length new ≡ j → new ++ drop j l ≡ padded 0 room new
unfolding padded
swapped_column old new l room j e p q =
    ap (λ (x : List ℕ). new ++ drop j x) e
    ∙ ap (λ (x : List ℕ). new ++ x) (drop_at old (replicate (room - length old) 0) j p)
    ∙ ap (λ (n : ℕ). new ++ replicate (room - n) 0) (p ∙ sym q)

held_column : (a : Result (ℕ × ℕ) Refusal) (old new l l' : List ℕ) (room : ℕ)
    → l ≡ held_in 0 a room old
    → ((i j : ℕ) → a ≡ Ok (i, j) → (length old ≡ j) × (length new ≡ j))
    → l' ≡ turned_for a new l
    → l' ≡ held_in 0 a room new
unfolding held_in
held_column (Ok (i, j)) old new l l' room e n f = let c = n i j refl in f ∙ swapped_column old new l room j e c.0 c.1
held_column (Err why) old new l l' room e n f = f ∙ e

-- ---- of a call

module _ (s : Settings) (ks : List ℕ) (ds ws : List Float) (cnt : ℕ) (r : Rooms) (a : Result (ℕ × ℕ) Refusal) (as' bs : List ℕ)
    (xs ys zs us vs ws' : List Float) (is js ls : List ℕ) (m : IsClosedMesh s (table ks ds ws cnt) r a as' bs xs ys zs us vs ws' is js ls) where
  abbrev t : Table
  t = table ks ds ws cnt

  abbrev es : List Edge
  es = closed_edges (rows t)

  abbrev ts : List (Three ℕ)
  ts = closed_triangles (rows t)

  module _ (i j : ℕ) (e : a ≡ Ok (i, j)) where
    known : (mesh_check s t r ≡ (Ok tt)) × (have_room_on Closed t r ≡ true) × (i ≡ length es) × (j ≡ length ts)
    known = done_on Closed s t r i j (sym m.answer ∙ e)

    acc : Accepted (table ks ds ws cnt) × (r.second ≡ r.first)
    acc = passed-mesh Closed s ks ds ws cnt r known.0

    three_rooms : (eqb r.t0 r.t1 && eqb r.t0 r.t2) && leb r.t0 1048576 ≡ true
    three_rooms = and_second (leb r.groups 1048576) _ (rest_ok Closed s ks ds ws cnt r known.0)

    edges_fit : length es ≤ r.first
    edges_fit = leb-true (length es) r.first (and_first (leb (length es) r.first) _ known.1)

    triangles_fit : length ts ≤ r.t0
    triangles_fit =
        leb-true (length ts) r.t0
        (and_second (leb 0 r.groups) _ (and_second (leb (length es) r.px) _ (and_second (leb (length es) r.first) _ known.1)))

    pub ready_by : Ready ks ds ws cnt as' bs i is js ls j
    ready_by =
        let p = lists_padded s ks ds ws cnt r a as' bs xs ys zs us vs ws' is js ls m i j e in
        let t1-room = eqb-true r.t0 r.t1 (and_first (eqb r.t0 r.t1) _ (and_first _ _ three_rooms)) in
        let t2-room = eqb-true r.t0 r.t2 (and_second (eqb r.t0 r.t1) _ (and_first _ _ three_rooms)) in
        let long : (l found : List ℕ) (room : ℕ) → l ≡ padded 0 room found → length found ≤ room → length l ≡ room =
        λ l found room q h. ap length q ∙ padded_length 0 room found h in
        let n0 = length-map ts (λ (f : Three ℕ). f.a) in
        let n1 = length-map ts (λ (f : Three ℕ). f.b) in
        let n2 = length-map ts (λ (f : Three ℕ). f.c) in
        let nf = length-map es (λ (x : Edge). x.first) in
        let ns = length-map es (λ (x : Edge). x.second) in
        let lf = long as' (firsts es) r.first p.0.0 (omega (arith, nf, edges_fit)) in
        let lsec = long bs (seconds es) r.second p.0.1 (omega (arith, ns, edges_fit, acc.1)) in
        let l0 = long is (column0 ts) r.t0 p.1.0 (omega (arith, n0, triangles_fit)) in
        let l1 = long js (column1 ts) r.t1 p.1.1.0 (omega (arith, n1, triangles_fit, t1-room)) in
        let l2 = long ls (column2 ts) r.t2 p.1.1.1 (omega (arith, n2, triangles_fit, t2-room)) in
        record {
          accepted = acc.0;
          even = omega (arith, lf, lsec, acc.1);
          fits = omega (arith, known.2, edges_fit, lf);
          edges = edges_held s ks ds ws cnt r a as' bs xs ys zs us vs ws' is js ls m i j e;
          t0 = omega (arith, known.3, triangles_fit, l0);
          t1 = omega (arith, known.3, triangles_fit, l1, t1-room);
          t2 = omega (arith, known.3, triangles_fit, l2, t2-room);
          triangles = triangles_held s ks ds ws cnt r a as' bs xs ys zs us vs ws' is js ls m i j e;
        }

    counts : (new : List ℕ) (column : Three ℕ → ℕ) → length new ≡ length (turned_triangles (rows t)) → (length (map column ts) ≡ j) × (length new ≡ j)
    counts new column q = (length-map ts column ∙ sym known.3, q ∙ turned_length t ∙ sym known.3)

  -- the lists of the closed call, turned
  pub turned_mesh : (js' ls' : List ℕ)
      → js' ≡ turned_for a (column1 (turned_triangles (rows t))) js
      → ls' ≡ turned_for a (column2 (turned_triangles (rows t))) ls
      → IsTurnedMesh s t r a as' bs xs ys zs us vs ws' is js' ls'
  turned_mesh js' ls' e1 e2 =
      let held : (column : Three ℕ → ℕ) (l l' : List ℕ) (room : ℕ) → l ≡ held_in 0 (mesh_answer_on Closed s t r) room (map column ts)
      → l' ≡ turned_for a (map column (turned_triangles (rows t))) l
      → l' ≡ held_in 0 (mesh_answer_on Closed s t r) room (map column (turned_triangles (rows t))) =
      λ column l l' room q f.
      held_column a (map column ts) (map column (turned_triangles (rows t))) l l' room
      (q ∙ ap (λ (x : Result (ℕ × ℕ) Refusal). held_in 0 x room (map column ts)) (sym m.answer))
      (λ i j e. counts i j e (map column (turned_triangles (rows t))) column (length-map (turned_triangles (rows t)) column)) f
      ∙ ap (λ (x : Result (ℕ × ℕ) Refusal). held_in 0 x room (map column (turned_triangles (rows t)))) m.answer in
      record {
        answer = m.answer;
        first = m.first;
        second = m.second;
        px = m.px;
        py = m.py;
        pz = m.pz;
        nx = m.nx;
        ny = m.ny;
        nz = m.nz;
        groups = m.groups;
        t0 = m.t0 ∙ ap (held_in 0 (mesh_answer_on Closed s t r) r.t0) (sym (turned_first t));
        t1 = held (λ f. f.b) js js' r.t1 m.t1 e1;
        t2 = held (λ f. f.c) ls ls' r.t2 m.t2 e2;
      }
