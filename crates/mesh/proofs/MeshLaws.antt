-- The mesh of a surface that is drawn: where the tests pass and the edges have room, the two lists hold the edge list, so that vertices and normals are
-- document 01's; and what each list holds once it is settled by the answer.
-- Assumes nothing.
use Rattle.std.specs.Prelude.{Ok, Err, Result}
use Prim.Native.Nat.{ℕ, ◌≤◌}
use native.Mathlib.Nat.{le_refl, sub_self}
use native.Mathlib.Omega.{arith}
use mathlib.Core.Path.{◌≡◌, refl, sym, ap, ap₂, ◌∙◌}
use mathlib.Core.Bool.{Bool, true, false, cond, ◌&&◌}
use mathlib.Core.List.{List, map, append-nil}
use lib.Dec.{eqb, leb}
use lib.Ieee.{Float}
use lib.ListN.{length, take, replicate, length-map, length-take}
use lib.Seq.{sets, length-sets, take_all}
use borrow.Author.Tests.{le-leb, leb-true, eqb-true}
use Rattle.floats.specs.Floats.{zero32}
use Rattle.lists.specs.Padding.{padded}
use Rattle.lists.specs.Places.{cleared_from}
use Rattle.lists.specs.Listing.{count_of}
use Rattle.lists.proofs.Bools.{cases, and_first, and_second}
use Rattle.lists.proofs.PaddingLaws.{padded_front}
use Rattle.lists.proofs.Writing.{sets_front, cleared_whole}
use Rattle.refusals.specs.declared.Refusal.{Refusal}
use Rattle.refusals.specs.declared.Refusal.TheVariants.{NoPlace}
use Rattle.search.specs.Keys.{ascending}
use Rattle.table.specs.Table.{Table, table, beside, rows, settings_ok, table_check}
use Rattle.table.specs.Rows.{keys_of}
use Rattle.table.specs.declared.Settings.{Settings}
use Rattle.table.proofs.Checking.{sound, with_passed, with_fit}
use Rattle.edges.specs.Edges.{Edge}
use Rattle.edges.specs.Listing.{firsts, seconds, outputs_ok, answer_if}
use Rattle.edges.specs.Steps.{Accepted}
use Rattle.edges.specs.declared.Surface.{Surface}
use Rattle.edges.proofs.AnswerLaws.{accepted, outputs_same}
use Rattle.edges.proofs.ListingLaws.{rows_rise}
use Rattle.edges.proofs.Calls.{counted_only}
use Rattle.slopes.specs.declared.Vertex.{Vertex}
use Rattle.slopes.specs.declared.Normal.{Normal}
use Rattle.slopes.specs.Stored.{Lookup, distance_by}
use Rattle.vertices.specs.StoredRows.{distance_in}
use Rattle.slopes.specs.Vertices.{xs_of, ys_of, zs_of, vertices_of as beside_of}
use Rattle.slopes.specs.Normals.{normals_of, parts_x, parts_y, parts_z}
use Rattle.vertices.proofs.TableLaws.{distance_by_lem, vertices_of_edges}
use Rattle.lists.specs.Threes.{column0, column1, column2}
use Rattle.triangles.specs.Building.{Rooms as Lent, rooms as rooms_for}
use Rattle.mesh.specs.declared.Rooms.{Rooms}
use Rattle.mesh.specs.declared.Drawn.{Drawn}
use Rattle.mesh.specs.Mesh.{surface_edges, vertices_on, normals_on, groups_on, triangles_on, rooms_ok, mesh_check, have_room_on, meshed_on, mesh_answer_on, held_in}
use Rattle.lists.specs.Listing.{kept_of}
use Rattle.mesh.specs.Steps.{with_built, with_vertices, with_edges, answer_for, Fit, Drawing}

-- ---- one list

module _ {A : Type 0} (v : A) where
  -- nothing is cleared past the end
  cleared_past : (l : List A) → cleared_from v (length l) l ≡ l
  cleared_past l = rw (take_all (length l) l (le_refl (length l)), sub_self (length l)) (append-nil l)

  -- what was written from the front, and then v
  written_held : (l xs : List A) (n : ℕ) → n ≡ length xs → length xs ≤ length l → cleared_from v n (sets l 0 xs) ≡ padded v (length l) xs
  unfolding padded
  written_held l xs n e h = let long : length (sets l 0 xs) ≡ length l = length-sets l 0 xs in rw (e, sets_front l xs h, long)

  -- a list once it is settled by the answer
  finish : (a : Result (ℕ × ℕ) Refusal) (k : ℕ) (l l' xs : List A) (room : ℕ) → l' ≡ cleared_from v (kept_of a k) l → length l ≡ room →
      ((i j : ℕ) → a ≡ Ok (i, j) → cleared_from v k l ≡ padded v room xs) → l' ≡ held_in v a room xs
  unfolding held_in
  finish (Ok (i, j)) k l l' xs room e same how = e ∙ how i j refl
  finish (Err why) k l l' xs room e same how = e ∙ cleared_whole v l ∙ ap (λ (n : ℕ). replicate n v) same

-- ---- the answer is a mesh only where every part is

pub never : (why : Refusal) (i j : ℕ) → ◌≡◌ {A = Result (ℕ × ℕ) Refusal} (Err why) (Ok (i, j)) → ⊥
never why i j e = cc

-- two meshes are the same only with the same numbers
pub parts : (n m i j : ℕ) → ◌≡◌ {A = Result (ℕ × ℕ) Refusal} (Ok (n, m)) (Ok (i, j)) → (n ≡ i) × (m ≡ j)
parts n m i j e = let pair : ◌≡◌ {A = ℕ × ℕ} (n, m) (i, j) = cc in (ap (λ (p : ℕ × ℕ). p.0) pair, ap (λ (p : ℕ × ℕ). p.1) pair)

built_known : (n : ℕ) (b : Result ℕ Refusal) (i j : ℕ) → with_built n b ≡ Ok (i, j) → (n ≡ i) × (b ≡ Ok j)
built_known n (Ok m) i j q = let h = parts n m i j q in (h.0, ap Ok h.1)
built_known n (Err why) i j q = absurd (never why i j q)

vertices_known : (n room : ℕ) (b : Result ℕ Refusal) (i j : ℕ) → with_vertices n room b ≡ Ok (i, j) → (n ≡ i) × (n ≤ room) × (b ≡ Ok j)
vertices_known n room b i j =
    cases (λ (t : Bool). cond t (with_built n b) (Err NoPlace) ≡ Ok (i, j) → (n ≡ i) × (n ≤ room) × (b ≡ Ok j)) (leb n room)
    (λ h q. let k = built_known n b i j q in (k.0, leb-true n room h, k.1))
    (λ h q. absurd (never NoPlace i j q))

edges_known : (e : Result ℕ Refusal) (room : ℕ) (b : Result ℕ Refusal) (i j : ℕ) → with_edges e room b ≡ Ok (i, j) → (e ≡ Ok i) × (i ≤ room) × (b ≡ Ok j)
edges_known (Ok n) room b i j q = let k = vertices_known n room b i j q in (ap Ok k.0, omega (arith, k.0, k.1), k.2)
edges_known (Err why) room b i j q = absurd (never why i j q)

done_known :
    (c : Result (Unit {0}) Refusal) (e : Result ℕ Refusal) (room : ℕ) (b : Result ℕ Refusal) (i j : ℕ)
    → answer_for c e room b ≡ Ok (i, j)
    → (c ≡ (Ok tt)) × (e ≡ Ok i) × (i ≤ room) × (b ≡ Ok j)
unfolding answer_for
done_known (Ok tt) e room b i j q = let k = edges_known e room b i j q in (refl, k.0, k.1, k.2)
done_known (Err why) e room b i j q = absurd (never why i j q)

-- the answers of the parts, where the tests passed and the edges have room
both :
    (n m : ℕ) (p q : Bool)
    → cond p (with_built n (cond q (Ok m) (Err NoPlace))) (Err NoPlace) ≡ cond (p && q) (Ok (n, m)) (Err NoPlace)
both n m true true = refl
both n m true false = refl
both n m false true = refl
both n m false false = refl

-- ---- what the tests tell

-- the rooms of the groups and the triangles
abbrev pub lent : Rooms → Lent
lent r = rooms_for r.groups r.t0 r.t1 r.t2

module _ (o : Surface) (s : Settings) (ks : List ℕ) (ds ws : List Float) (cnt : ℕ) (r : Rooms) where
  abbrev own : Table
  own = table ks ds ws cnt

  abbrev own_edges : List Edge
  own_edges = surface_edges o own

  module _ (pass : mesh_check s own r ≡ (Ok tt)) where
    pub tests : (settings_ok s ≡ true) × (rooms_ok r ≡ true) × (table_check s own ≡ (Ok tt))
    unfolding mesh_check
    tests = let p = with_passed (rooms_ok r) s own pass in ((sound s own p.1).settings, p.0, p.1)

    outputs : outputs_ok r.first r.second ≡ true
    outputs = and_first (outputs_ok r.first r.second) _ tests.1

    pub passing : Accepted (table ks ds ws cnt) × (outputs_ok r.first r.second ≡ true)
    passing =
        accepted s ks ds ws cnt r.first r.second (with_fit (outputs_ok r.first r.second) s own outputs ∙ tests.2)

    pub acc : Accepted (table ks ds ws cnt) × (r.second ≡ r.first)
    acc = (passing.0, outputs_same r.first r.second passing.1)

    pub rise : ascending (keys_of (rows own)) ≡ true
    rise = rows_rise ks ds ws cnt acc.0

    pub few_rows : length (rows own) ≤ 65536
    few_rows = omega (arith, length-take cnt (beside ks ds ws), acc.0.fits, acc.0.few)

    -- the vertices' lists are equally long
    six : ((r.py ≡ r.px) × (r.pz ≡ r.px)) × ((r.nx ≡ r.px) × (r.ny ≡ r.px) × (r.nz ≡ r.px))
    six =
        let all =
        and_first _ (leb r.px 1048576)
        (and_first _
        (leb r.groups 1048576 && ((eqb r.t0 r.t1 && eqb r.t0 r.t2) && leb r.t0 1048576))
        (and_second (outputs_ok r.first r.second) _ tests.1)) in
        let p = and_first (eqb r.px r.py && eqb r.px r.pz) _ all in
        let q = and_second (eqb r.px r.py && eqb r.px r.pz) _ all in
        let q' = and_second (eqb r.px r.nx) _ q in (
          (sym (eqb-true r.px r.py (and_first _ (eqb r.px r.pz) p)), sym (eqb-true r.px r.pz (and_second (eqb r.px r.py) _ p))),
          (
            sym (eqb-true r.px r.nx (and_first (eqb r.px r.nx) _ q)),
            sym (eqb-true r.px r.ny (and_first _ (eqb r.px r.nz) q')),
            sym (eqb-true r.px r.nz (and_second (eqb r.px r.ny) _ q')),
          ),
        )

    pub rest_ok : leb r.groups 1048576 && ((eqb r.t0 r.t1 && eqb r.t0 r.t2) && leb r.t0 1048576) ≡ true
    rest_ok =
        and_second
        (((eqb r.px r.py && eqb r.px r.pz) &&
        (eqb r.px r.nx && (eqb r.px r.ny && eqb r.px r.nz))) && leb r.px 1048576) _
        (and_second (outputs_ok r.first r.second) _ tests.1)

    pub fit : (v : Result (Unit {0}) Refusal) → v ≡ (Ok tt) → Fit v (lent r)
    fit v told = record { passed = told; rest = rest_ok }

    -- ---- where the edges have room

    module _ (fits : length own_edges ≤ r.first) where
      abbrev as' : List ℕ
      as' = padded 0 r.first (firsts own_edges)

      abbrev bs : List ℕ
      bs = padded 0 r.second (seconds own_edges)

      -- the cells of the edges, from the front of the two lists
      firsts_front : take (length own_edges) as' ≡ firsts own_edges
      firsts_front = ap (λ (n : ℕ). take n as') (sym (length-map own_edges (λ (e : Edge). e.first))) ∙ padded_front 0 r.first (firsts own_edges)

      seconds_front : take (length own_edges) bs ≡ seconds own_edges
      seconds_front = ap (λ (n : ℕ). take n bs) (sym (length-map own_edges (λ (e : Edge). e.second))) ∙ padded_front 0 r.second (seconds own_edges)

      vertices_are : beside_of (distance_by ks ds cnt) s.voxel_size.0 (take (length own_edges) as') (take (length own_edges) bs) ≡ vertices_on o s own
      vertices_are =
          ap₂ (λ (k l : List ℕ). beside_of (distance_by ks ds cnt) s.voxel_size.0 k l) firsts_front seconds_front
          ∙ ap (λ (look : Lookup). beside_of look s.voxel_size.0 (firsts own_edges) (seconds own_edges)) (distance_by_lem ks ds ws cnt acc.0)
          ∙ vertices_of_edges (distance_in (rows own)) s.voxel_size.0 own_edges

      normals_are : normals_of (distance_by ks ds cnt) s.voxel_size.0 (take (length own_edges) as') ≡ normals_on o s own
      normals_are =
          ap (λ (k : List ℕ). normals_of (distance_by ks ds cnt) s.voxel_size.0 k) firsts_front
          ∙ ap (λ (look : Lookup). normals_of look s.voxel_size.0 (firsts own_edges)) (distance_by_lem ks ds ws cnt acc.0)

-- ---- the call: the verdict v, what is drawn, how many edges it says, the answer a, and what the lists of edges, groups and triangles hold then

pub record Run (o : Surface) (s : Settings) (t : Table) (r : Rooms) (v : Result (Unit {0}) Refusal) (d : Drawn) (n : ℕ) (a : Result (ℕ × ℕ) Refusal) (f' s' g' x' y' z' : List ℕ) : Type 0 where
  pub tested : v ≡ mesh_check s t r
  pub drawn : Fit v (lent r) → Drawing o t r.first r.second (lent r) d f' s' g' x' y' z'
  pub count : n ≡ count_of d.edges
  pub answered : a ≡ answer_for v d.edges r.px d.built

module _ {o : Surface} {s : Settings} {ks : List ℕ} {ds ws : List Float} {cnt : ℕ} {r : Rooms} {v : Result (Unit {0}) Refusal} {d : Drawn} {n : ℕ} {a : Result (ℕ × ℕ) Refusal}
    {f' s' g' x' y' z' : List ℕ} (run : Run o s (table ks ds ws cnt) r v d n a f' s' g' x' y' z') where
  abbrev t : Table
  t = table ks ds ws cnt

  abbrev es : List Edge
  es = surface_edges o t

  -- where the tests pass and the edges have room
  module _ (pass : mesh_check s t r ≡ (Ok tt)) where
    drawing : Drawing o t r.first r.second (lent r) d f' s' g' x' y' z'
    drawing = run.drawn (fit o s ks ds ws cnt r pass v (run.tested ∙ pass))

    module _ (fits : length es ≤ r.first) where
      e_count : d.edges ≡ Ok (length es)
      e_count = drawing.edges ∙ rw (le-leb (length es) r.first fits)

      n_count : n ≡ length es
      n_count = run.count ∙ ap count_of e_count

  pub answer_is : a ≡ mesh_answer_on o s t r
  unfolding mesh_answer_on answer_for meshed_on
  answer_is = run.answered ∙ ap (λ (c : Result (Unit {0}) Refusal). answer_for c d.edges r.px d.built) run.tested ∙ go (mesh_check s t r) refl
    where
      passed :
          mesh_check s t r ≡ (Ok tt)
          → with_edges d.edges r.px d.built ≡ cond (have_room_on o t r) (Ok (length es, length (triangles_on o t))) (Err NoPlace)
      passed pass =
          cases
          (λ (p : Bool).
          leb (length es) r.first ≡ p
          → with_edges d.edges r.px d.built ≡ cond (p && (leb (length es) r.px &&
          (leb (length (groups_on o t)) r.groups && leb (length (triangles_on o t)) r.t0)))
          (Ok (length es, length (triangles_on o t))) (Err NoPlace))
          (leb (length es) r.first)
          (λ h q.
          let fits = leb-true (length es) r.first h in
          ap (λ (l : Result ℕ Refusal). with_edges l r.px d.built) (e_count pass fits)
          ∙ ap (λ (l : Result ℕ Refusal). with_vertices (length es) r.px l) ((drawing pass).built fits)
          ∙ both (length es) (length (triangles_on o t)) (leb (length es) r.px)
          (leb (length (groups_on o t)) r.groups && leb (length (triangles_on o t)) r.t0))
          (λ h q.
          ap (λ (l : Result ℕ Refusal). with_edges l r.px d.built)
          ((drawing pass).edges
          ∙ ap (λ (p : Bool). cond p (Ok (length es)) (Err NoPlace)) h))
          refl

      go : (c : Result (Unit {0}) Refusal) → mesh_check s t r ≡ c → answer_for c d.edges r.px d.built ≡ meshed_on o c t r
      go (Ok tt) q = passed q
      go (Err why) q = refl

  -- what an answer that is a mesh tells
  module _ (i j : ℕ) (q : a ≡ Ok (i, j)) where
    known : (v ≡ (Ok tt)) × (d.edges ≡ Ok i) × (i ≤ r.px) × (d.built ≡ Ok j)
    known = done_known v d.edges r.px d.built i j (sym run.answered ∙ q)

    passes : mesh_check s t r ≡ (Ok tt)
    passes = sym run.tested ∙ known.0

    counted : (◌≡◌ {A = Result (Unit {0}) Refusal} (Ok tt) (Ok tt)) × (i ≡ length es) × (length es ≤ r.first)
    unfolding answer_if
    counted = counted_only (Ok tt) es r.first i (sym (drawing passes).edges ∙ known.1)

    fitting : length es ≤ r.first
    fitting = counted.2

    few : length es ≤ r.px
    few = omega (arith, known.2, counted.1)

  -- ---- the lists

  pub first_settled :
      (l : List ℕ)
      → length f' ≡ r.first
      → l ≡ cleared_from 0 (kept_of a (length f')) f'
      → l ≡ held_in 0 (mesh_answer_on o s t r) r.first (firsts es)
  first_settled l long e' =
      finish 0 a (length f') f' l (firsts es) r.first e' long (λ i j q. cleared_past 0 f' ∙ (drawing (passes i j q)).first (fitting i j q))
      ∙ ap (λ (w : Result (ℕ × ℕ) Refusal). held_in 0 w r.first (firsts es)) answer_is

  pub second_settled :
      (l : List ℕ)
      → length s' ≡ r.second
      → l ≡ cleared_from 0 (kept_of a (length s')) s'
      → l ≡ held_in 0 (mesh_answer_on o s t r) r.second (seconds es)
  second_settled l long e' =
      finish 0 a (length s') s' l (seconds es) r.second e' long (λ i j q. cleared_past 0 s' ∙ (drawing (passes i j q)).second (fitting i j q))
      ∙ ap (λ (w : Result (ℕ × ℕ) Refusal). held_in 0 w r.second (seconds es)) answer_is

  -- a column of the vertices or of the normals
  column : {B : Type 0} (f : B → Float) (found right : List B) (l l' l'' : List Float) (room : ℕ) → length l ≡ room →
      ((i j : ℕ) → a ≡ Ok (i, j) → (found ≡ right) × (length right ≡ length es) × (room ≡ r.px)) →
      l' ≡ sets l 0 (map f found) → l'' ≡ cleared_from zero32 (kept_of a n) l' → l'' ≡ held_in zero32 (mesh_answer_on o s t r) room (map f right)
  column f found right l l' l'' room same how wrote e' =
      finish zero32 a n l' l'' (map f right) room e' (ap length wrote ∙ length-sets l 0 (map f found) ∙ same)
      (λ i j q.
      let h = how i j q in
      let c = n_count (passes i j q) (fitting i j q) in
      let m = length-map right f in
      ap (cleared_from zero32 n) (wrote ∙ ap (λ (vs : List _). sets l 0 (map f vs)) h.0)
      ∙ written_held zero32 l (map f right) n (omega (arith, c, m, h.1)) (omega (arith, m, h.1, h.2, same, few i j q))
      ∙ ap (λ (k : ℕ). padded zero32 k (map f right)) same)
      ∙ ap (λ (w : Result (ℕ × ℕ) Refusal). held_in zero32 w room (map f right)) answer_is

  -- the vertices, and the normals, as they are worked out
  abbrev found_vertices : List Vertex
  found_vertices = beside_of (distance_by ks ds cnt) s.voxel_size.0 (take n f') (take n s')

  abbrev found_normals : List Normal
  found_normals = normals_of (distance_by ks ds cnt) s.voxel_size.0 (take n f')

  vertices_known_as : (i j : ℕ) → a ≡ Ok (i, j) → (found_vertices ≡ vertices_on o s t) × (length (vertices_on o s t) ≡ length es)
  vertices_known_as i j q =
      let p = passes i j q in
      let f = fitting i j q in (
        ap₂ (λ (x y : List ℕ). beside_of (distance_by ks ds cnt) s.voxel_size.0 x y)
            (ap₂ take (n_count p f) ((drawing p).first f)) (ap₂ take (n_count p f) ((drawing p).second f))
            ∙ vertices_are o s ks ds ws cnt r p f,
        length-map es _,
      )

  normals_known_as : (i j : ℕ) → a ≡ Ok (i, j) → (found_normals ≡ normals_on o s t) × (length (normals_on o s t) ≡ length es)
  normals_known_as i j q =
      let p = passes i j q in
      let f = fitting i j q in (
        ap (λ (x : List ℕ). normals_of (distance_by ks ds cnt) s.voxel_size.0 x) (ap₂ take (n_count p f) ((drawing p).first f))
            ∙ normals_are o s ks ds ws cnt r p f,
        length-map (firsts es) _ ∙ length-map es (λ (x : Edge). x.first),
      )

  pub px_settled :
      (l l' l'' : List Float)
      → length l ≡ r.px
      → l' ≡ sets l 0 (xs_of found_vertices)
      → l'' ≡ cleared_from zero32 (kept_of a n) l'
      → l'' ≡ held_in zero32 (mesh_answer_on o s t r) r.px (xs_of (vertices_on o s t))
  px_settled l l' l'' same wrote e' =
      column (λ (x : Vertex). x.x.0) found_vertices (vertices_on o s t) l l' l'' r.px same
      (λ i j q. let k = vertices_known_as i j q in (k.0, k.1, refl)) wrote e'

  pub py_settled :
      (l l' l'' : List Float)
      → length l ≡ r.py
      → l' ≡ sets l 0 (ys_of found_vertices)
      → l'' ≡ cleared_from zero32 (kept_of a n) l'
      → l'' ≡ held_in zero32 (mesh_answer_on o s t r) r.py (ys_of (vertices_on o s t))
  py_settled l l' l'' same wrote e' =
      column (λ (x : Vertex). x.y.0) found_vertices (vertices_on o s t) l l' l'' r.py same
      (λ i j q. let k = vertices_known_as i j q in (k.0, k.1, (six o s ks ds ws cnt r (passes i j q)).0.0)) wrote e'

  pub pz_settled :
      (l l' l'' : List Float)
      → length l ≡ r.pz
      → l' ≡ sets l 0 (zs_of found_vertices)
      → l'' ≡ cleared_from zero32 (kept_of a n) l'
      → l'' ≡ held_in zero32 (mesh_answer_on o s t r) r.pz (zs_of (vertices_on o s t))
  pz_settled l l' l'' same wrote e' =
      column (λ (x : Vertex). x.z.0) found_vertices (vertices_on o s t) l l' l'' r.pz same
      (λ i j q. let k = vertices_known_as i j q in (k.0, k.1, (six o s ks ds ws cnt r (passes i j q)).0.1)) wrote e'

  pub nx_settled :
      (l l' l'' : List Float)
      → length l ≡ r.nx
      → l' ≡ sets l 0 (parts_x found_normals)
      → l'' ≡ cleared_from zero32 (kept_of a n) l'
      → l'' ≡ held_in zero32 (mesh_answer_on o s t r) r.nx (parts_x (normals_on o s t))
  nx_settled l l' l'' same wrote e' =
      column (λ (x : Normal). x.x) found_normals (normals_on o s t) l l' l'' r.nx same
      (λ i j q. let k = normals_known_as i j q in (k.0, k.1, (six o s ks ds ws cnt r (passes i j q)).1.0)) wrote e'

  pub ny_settled :
      (l l' l'' : List Float)
      → length l ≡ r.ny
      → l' ≡ sets l 0 (parts_y found_normals)
      → l'' ≡ cleared_from zero32 (kept_of a n) l'
      → l'' ≡ held_in zero32 (mesh_answer_on o s t r) r.ny (parts_y (normals_on o s t))
  ny_settled l l' l'' same wrote e' =
      column (λ (x : Normal). x.y) found_normals (normals_on o s t) l l' l'' r.ny same
      (λ i j q. let k = normals_known_as i j q in (k.0, k.1, (six o s ks ds ws cnt r (passes i j q)).1.1)) wrote e'

  pub nz_settled :
      (l l' l'' : List Float)
      → length l ≡ r.nz
      → l' ≡ sets l 0 (parts_z found_normals)
      → l'' ≡ cleared_from zero32 (kept_of a n) l'
      → l'' ≡ held_in zero32 (mesh_answer_on o s t r) r.nz (parts_z (normals_on o s t))
  nz_settled l l' l'' same wrote e' =
      column (λ (x : Normal). x.z) found_normals (normals_on o s t) l l' l'' r.nz same
      (λ i j q. let k = normals_known_as i j q in (k.0, k.1, (six o s ks ds ws cnt r (passes i j q)).1.2)) wrote e'

  -- the groups and the triangles as they were drawn
  built_settled :
      (room : ℕ) (right l l' : List ℕ)
      → ((pass : mesh_check s t r ≡ (Ok tt)) → length es ≤ r.first → (j : ℕ) → d.built ≡ Ok j → l ≡ padded 0 room right)
      → length l ≡ room
      → l' ≡ cleared_from 0 (kept_of a (length l)) l
      → l' ≡ held_in 0 (mesh_answer_on o s t r) room right
  built_settled room right l l' is long e' =
      finish 0 a (length l) l l' right room e' long (λ i j q. cleared_past 0 l ∙ is (passes i j q) (fitting i j q) j (known i j q).3)
      ∙ ap (λ (w : Result (ℕ × ℕ) Refusal). held_in 0 w room right) answer_is

  pub groups_settled :
      (l' : List ℕ)
      → length g' ≡ r.groups
      → l' ≡ cleared_from 0 (kept_of a (length g')) g'
      → l' ≡ held_in 0 (mesh_answer_on o s t r) r.groups (groups_on o t)
  groups_settled l' = built_settled r.groups (groups_on o t) g' l' (λ p. (drawing p).groups)

  pub t0_settled :
      (l' : List ℕ)
      → length x' ≡ r.t0
      → l' ≡ cleared_from 0 (kept_of a (length x')) x'
      → l' ≡ held_in 0 (mesh_answer_on o s t r) r.t0 (column0 (triangles_on o t))
  t0_settled l' = built_settled r.t0 (column0 (triangles_on o t)) x' l' (λ p. (drawing p).t0)

  pub t1_settled :
      (l' : List ℕ)
      → length y' ≡ r.t1
      → l' ≡ cleared_from 0 (kept_of a (length y')) y'
      → l' ≡ held_in 0 (mesh_answer_on o s t r) r.t1 (column1 (triangles_on o t))
  t1_settled l' = built_settled r.t1 (column1 (triangles_on o t)) y' l' (λ p. (drawing p).t1)

  pub t2_settled :
      (l' : List ℕ)
      → length z' ≡ r.t2
      → l' ≡ cleared_from 0 (kept_of a (length z')) z'
      → l' ≡ held_in 0 (mesh_answer_on o s t r) r.t2 (column2 (triangles_on o t))
  t2_settled l' = built_settled r.t2 (column2 (triangles_on o t)) z' l' (λ p. (drawing p).t2)
