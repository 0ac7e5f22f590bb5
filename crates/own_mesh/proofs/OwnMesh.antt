-- A mesh call leaves lists that area, box and STL take: each set fits its room, vertices of an accepted table are in range, and triangles name its edges.
-- Assumes nothing.
use Rattle.std.specs.Prelude.{Ok, Result}
use Prim.Native.Nat.{ℕ, ◌+◌, ◌-◌, ◌*◌, ◌<◌, ◌≤◌}
use native.Mathlib.Omega.{arith}
use mathlib.Core.Path.{◌≡◌, refl, sym, ap, ◌∙◌}
use mathlib.Core.Bool.{Bool, true, false, ◌&&◌}
use mathlib.Core.List.Memᴰ
use mathlib.Core.List.{List, [], ◌∷◌, ◌++◌, map, map-id}
use lib.Dec.{eqb, leb, ltb}
use lib.Ieee.{Float}
use lib.ListN.{length, take, replicate, length-map}
use borrow.Author.Tests.{eqb-true, eq-eqb, leb-true, le-leb, lt-ltb}
use Rattle.lists.specs.Beside.{beside_by}
use Rattle.floats.specs.Floats.{zero32, thousand, million, is_finite, positive_to}
use Rattle.lists.specs.Lists.{◌∈◌}
use Rattle.lists.specs.Listing.{room_for}
use Rattle.lists.specs.Padding.{padded}
use Rattle.lists.specs.Threes.{Three, column0, column1, column2}
use Rattle.lists.proofs.ListLaws.{map_in}
use Rattle.lists.proofs.Bools.{and_first, and_second, and_eq}
use Rattle.lists.proofs.PaddingLaws.{padded_length}
use Rattle.search.specs.Keys.{ascending}
use Rattle.table.specs.Table.{Table, table, rows, settings_ok, table_check}
use Rattle.table.specs.Rows.{keys_of}
use Rattle.table.specs.declared.Settings.{Settings}
use Rattle.table.proofs.Checking.{sound}
use Rattle.table.proofs.SettingsLaws.{settings_known}
use Rattle.edges.specs.Edges.{Edge}
use Rattle.edges.specs.Listing.{firsts, seconds, outputs_ok}
use Rattle.edges.specs.declared.Surface.{Surface}
use Rattle.edges.specs.declared.Surface.TheVariants.{Open, Closed}
use Rattle.slopes.specs.declared.Vertex.{Vertex}
use Rattle.slopes.specs.Stored.{or_zero}
use Rattle.slopes.specs.Vertices.{xs_of, ys_of, zs_of}
use Rattle.vertices.specs.StoredRows.{distance_in}
use Rattle.vertices.proofs.TableLaws.{stored_finite, vertices_of_edges}
use Rattle.triangles.proofs.Demand3.{zero_crossing_triangles}
use Rattle.tetrahedra.specs.ClosedEdges.{closed_edges}
use Rattle.tetrahedra.specs.ClosedTriangles.{closed_triangles}
use Rattle.tetrahedra.specs.Closing.{names}
use Rattle.tetrahedra.proofs.Corners.{or_first_true, or_second_true}
use Rattle.tetrahedra.proofs.ClosingLaws.{side_small}
use Rattle.corners.specs.Corners.{set_ok, every, vertex, vertices_in, vertex_ok, triangle, triangles_in, triangle_ok}
use Rattle.surfaces.specs.Areas.{area_from, area_answer}
use Rattle.surfaces.specs.Boxes.{box_of, box_answer}
use Rattle.surfaces.proofs.Roots.{mesh_ok}
use Rattle.stl.specs.Calls.{export_answer}
use Rattle.mesh.specs.declared.Rooms.{Rooms}
use Rattle.mesh.specs.Mesh.{surface_edges, vertices_on, groups_on, triangles_on, rooms_ok, mesh_check, have_room_on, mesh_answer_on, held_in, IsMeshOn}
use Rattle.mesh.proofs.MeshLaws.{tests, rise, rest_ok}
use Rattle.mesh.proofs.Calls.{done_on}
use Rattle.winding.specs.Winding.{looks_in, turn_if, outwards, turned_triangles}
use Rattle.turned_mesh.specs.Turned.{IsTurnedMesh}
use Rattle.refusals.specs.declared.Refusal.{Refusal}

-- ---- lists by their elements

-- what each of a list gives passes a test, where it does of every one that stands there
every_of :
    {A B : Type 0} (test : B → Bool) (f : A → B) (l : List A)
    → ((x : A) → x ∈ l → test (f x) ≡ true)
    → every test (map f l) ≡ true
unfolding every
every_of test f [] h = refl
every_of test f (x ∷ xs) h = and_eq (h x (Memᴰ.head refl)) (every_of test f xs (λ y m. h y (Memᴰ.tail m)))

-- ---- three columns side by side

module _ {A B C : Type 0} (make : A → A → A → B) (f g h : C → A) where
  -- the columns of a list, whatever follows them, give back what is made of each three
  columns_back :
      (cs : List C) (xs ys zs : List A)
      → take (length cs) (beside_by make (map f cs ++ xs) (map g cs ++ ys) (map h cs ++ zs)) ≡ map (λ (x : C). make (f x) (g x) (h x)) cs
  unfolding beside_by
  columns_back [] xs ys zs = refl
  columns_back (c ∷ cs) xs ys zs = ap {B = List B} (λ r. make (f c) (g c) (h c) ∷ r) (columns_back cs xs ys zs)

  -- three lists of an answer that is a mesh: each column in its own room, and v after it
  module _ (w : Result (ℕ × ℕ) Refusal) (i j : ℕ) (done : w ≡ Ok (i, j)) (v : A) (a b c : ℕ) (cs : List C) (n : ℕ) (count : n ≡ length cs) (xs ys zs : List A)
      (first : xs ≡ held_in v w a (map f cs)) (second : ys ≡ held_in v w b (map g cs)) (third : zs ≡ held_in v w c (map h cs)) where
    read_back : take n (beside_by make xs ys zs) ≡ map (λ (x : C). make (f x) (g x) (h x)) cs
    unfolding held_in padded
    read_back =
        rw (first, second, third, done, count)
        (columns_back cs (replicate (a - length (map f cs)) v) (replicate (b - length (map g cs)) v) (replicate (c - length (map h cs)) v))

    -- a list is as long as its room
    fills : (room : ℕ) (column : C → A) (l : List A) → l ≡ held_in v w room (map column cs) → length cs ≤ room → length l ≡ room
    unfolding held_in
    fills room column l held fits = rw (held, done) (padded_length v room (map column cs) (omega (arith, length-map cs column)))

    -- rooms that a mesh takes are a set that area and box take
    set_taken : eqb a b && eqb a c ≡ true → leb a 1048576 ≡ true → length cs ≤ a → set_ok (length xs) (length ys) (length zs) n ≡ true
    set_taken same few fits =
        let same_second = and_first (eqb a b) _ same in
        let same-third = and_second (eqb a b) _ same in
        let x = fills a f xs first fits in
        let y = fills b g ys second (omega (arith, eqb-true a b same_second)) in
        let z = fills c h zs third (omega (arith, eqb-true a c same-third)) in
        rw (x, y, z) (and_eq same_second (and_eq same-third (and_eq few (le-leb n a (omega (arith, count))))))

    -- both at once, since vertices and triangles each need both
    columns_taken :
        eqb a b && eqb a c ≡ true
        → leb a 1048576 ≡ true
        → length cs ≤ a
        → (take n (beside_by make xs ys zs) ≡ map (λ (x : C). make (f x) (g x) (h x)) cs) × (set_ok (length xs) (length ys) (length zs) n ≡ true)
    columns_taken same few fits = (read_back, set_taken same few fits)

-- ---- a triangle of either surface names edges

module _ (t : Table) (up : ascending (keys_of (rows t)) ≡ true) where
  -- demand 3 says it of document 01's surface, the closing of the other
  edges_named : (o : Surface) (x : Three ℕ) → x ∈ triangles_on o t →
      (x.a < length (surface_edges o t)) × (x.b < length (surface_edges o t)) × (x.c < length (surface_edges o t))
  unfolding names
  edges_named Open x m =
      let w = ((zero_crossing_triangles (rows t) up).only x m).1 in
      (w.a_ends.numbered, w.b_ends.numbered, w.c_ends.numbered)
  edges_named Closed x m = (
    side_small (rows t) up x m x.a (or_first_true (eqb x.a x.a) _ (eq-eqb x.a x.a refl)),
    side_small (rows t) up x m x.b (or_second_true (eqb x.a x.b) _ (or_first_true (eqb x.b x.b) _ (eq-eqb x.b x.b refl))),
    side_small (rows t) up x m x.c (or_second_true (eqb x.a x.c) _ (or_second_true (eqb x.b x.c) _ (eq-eqb x.c x.c refl))),
  )

-- ---- the vertices of a surface in three lists, and triangles over its edges in three

-- an answered mesh's vertices, and triangles that name its edges and are as many as its own
record Filled (o : Surface) (s : Settings) (t : Table) (r : Rooms) (i j : ℕ) (xs ys zs : List Float) (ts : List (Three ℕ)) (is js ls : List ℕ) : Type 0 where
  answered : mesh_answer_on o s t r ≡ Ok (i, j)
  px : xs ≡ held_in zero32 (mesh_answer_on o s t r) r.px (xs_of (vertices_on o s t))
  py : ys ≡ held_in zero32 (mesh_answer_on o s t r) r.py (ys_of (vertices_on o s t))
  pz : zs ≡ held_in zero32 (mesh_answer_on o s t r) r.pz (zs_of (vertices_on o s t))
  many : length ts ≡ length (triangles_on o t)
  named : ascending (keys_of (rows t)) ≡ true → (x : Three ℕ) → x ∈ ts →
      (x.a < length (surface_edges o t)) × (x.b < length (surface_edges o t)) × (x.c < length (surface_edges o t))
  t0 : is ≡ held_in 0 (mesh_answer_on o s t r) r.t0 (column0 ts)
  t1 : js ≡ held_in 0 (mesh_answer_on o s t r) r.t1 (column1 ts)
  t2 : ls ≡ held_in 0 (mesh_answer_on o s t r) r.t2 (column2 ts)

module _ (o : Surface) (s : Settings) (ks : List ℕ) (ds ws : List Float) (cnt : ℕ) (r : Rooms) where
  abbrev t : Table
  t = table ks ds ws cnt

  abbrev es : List Edge
  es = surface_edges o t

  module _ (i j : ℕ) (xs ys zs : List Float) (ts : List (Three ℕ)) (is js ls : List ℕ) (m : Filled o s t r i j xs ys zs ts is js ls) where
    answered : mesh_answer_on o s t r ≡ Ok (i, j)
    answered = m.answered

    known : (mesh_check s t r ≡ (Ok tt)) × (have_room_on o t r ≡ true) × (i ≡ length es) × (j ≡ length (triangles_on o t))
    known = done_on o s t r i j answered

    -- ---- what the tests told

    told : (settings_ok s ≡ true) × (rooms_ok r ≡ true) × (table_check s t ≡ (Ok tt))
    told = tests o s ks ds ws cnt r known.0

    up : ascending (keys_of (rows t)) ≡ true
    up = rise o s ks ds ws cnt r known.0

    -- the voxel size is in range, and what is stored is finite
    size_ok : positive_to thousand s.voxel_size.0 ≡ true
    size_ok = (settings_known s told.0).size

    finite : (key : ℕ) → is_finite (or_zero (distance_in (rows t) key)) ≡ true
    finite = stored_finite s.max_weight (rows t) (sound s t told.2).ranges

    -- ---- the vertices

    abbrev places : List Vertex
    places = vertices_on o s t

    place_count : i ≡ length places
    place_count = known.2 ∙ sym (length-map es _)

    vertices_taken : (vertices_in xs ys zs i ≡ map (λ (v : Vertex). v) places) × (set_ok (length xs) (length ys) (length zs) i ≡ true)
    vertices_taken =
        let six = and_first _ _ (and_second (outputs_ok r.first r.second) _ told.1) in
        let room = leb-true (length es) r.px (and_first _ _ (and_second (leb (length es) r.first) _ known.1)) in
        columns_taken vertex (λ (v : Vertex). v.x.0) (λ (v : Vertex). v.y.0) (λ (v : Vertex). v.z.0) (mesh_answer_on o s t r) i j answered zero32
        r.px r.py r.pz places i place_count xs ys zs m.px m.py m.pz
        (and_first _ _ (and_first _ _ six))
        (and_second ((eqb r.px r.py && eqb r.px r.pz) && (eqb r.px r.nx && (eqb r.px r.ny && eqb r.px r.nz))) _ six)
        (omega (arith, place_count, known.2))

    vertices_held : vertices_in xs ys zs i ≡ vertices_on o s t
    vertices_held = vertices_taken.0 ∙ map-id places

    vertices_pass : every vertex_ok (vertices_in xs ys zs i) ≡ true
    vertices_pass =
        ap (every vertex_ok) (vertices_held ∙ sym (vertices_of_edges (distance_in (rows t)) s.voxel_size.0 es))
        ∙ mesh_ok s.voxel_size.0 size_ok (distance_in (rows t)) finite (firsts es) (seconds es)

    -- ---- the triangles

    triangles_taken : (triangles_in is js ls j ≡ map (λ (x : Three ℕ). triangle x.a x.b x.c) ts)
        × (set_ok (length is) (length js) (length ls) j ≡ true)
    triangles_taken =
        let three = and_second (leb r.groups 1048576) _ (rest_ok o s ks ds ws cnt r known.0) in
        let most =
        leb-true (length (triangles_on o t)) r.t0
        (and_second (leb (length (groups_on o t)) r.groups) _
        (and_second (leb (length es) r.px) _ (and_second (leb (length es) r.first) _ known.1))) in
        columns_taken triangle (λ (x : Three ℕ). x.a) (λ (x : Three ℕ). x.b) (λ (x : Three ℕ). x.c) (mesh_answer_on o s t r) i j answered 0
        r.t0 r.t1 r.t2 ts j (known.3 ∙ sym m.many) is js ls m.t0 m.t1 m.t2
        (and_first _ _ three) (and_second (eqb r.t0 r.t1 && eqb r.t0 r.t2) _ three) (omega (arith, most, m.many))

    triangles_pass : every (triangle_ok i) (triangles_in is js ls j) ≡ true
    triangles_pass =
        ap (every (triangle_ok i)) triangles_taken.0
        ∙ every_of (triangle_ok i) (λ (x : Three ℕ). triangle x.a x.b x.c) ts
        (λ x l.
        let n = m.named up x l in
        let below : (k : ℕ) → k < length es → ltb k i ≡ true = λ k h. lt-ltb k i (omega (arith, known.2)) in
        and_eq (below x.a n.0) (and_eq (below x.b n.1) (below x.c n.2)))

    -- ---- area, box and STL take them

    lengths_pass : set_ok (length xs) (length ys) (length zs) i && set_ok (length is) (length js) (length ls) j ≡ true
    lengths_pass = and_eq vertices_taken.1 triangles_taken.1

    passes : every vertex_ok (vertices_in xs ys zs i) && every (triangle_ok i) (triangles_in is js ls j) ≡ true
    passes = and_eq vertices_pass triangles_pass

    area : area_answer xs ys zs i is js ls j ≡ Ok (area_from (vertices_in xs ys zs i) zero32 (triangles_in is js ls j))
    unfolding area_answer
    area = rw (lengths_pass, passes)

    box : box_answer xs ys zs i ≡ box_of (vertices_in xs ys zs i)
    unfolding box_answer
    box = rw (vertices_taken.1, vertices_pass)

    written : (room : ℕ) → room ≤ 52428884 → export_answer xs ys zs i is js ls j room ≡ room_for (84 + 50 * j) room
    unfolding export_answer
    written room h = rw (vertices_taken.1, triangles_taken.1, le-leb room 52428884 h, passes)

-- ---- of a mesh call

module _ (o : Surface) (s : Settings) (ks : List ℕ) (ds ws : List Float) (cnt : ℕ) (r : Rooms) (a : Result (ℕ × ℕ) Refusal) (as' bs : List ℕ)
    (xs ys zs us vs ws' : List Float) (gs is js ls : List ℕ) (m : IsMeshOn o s (table ks ds ws cnt) r a as' bs xs ys zs us vs ws' gs is js ls)
    (i j : ℕ) (e : a ≡ Ok (i, j)) where
  abbrev own : Table
  own = table ks ds ws cnt

  filled : Filled o s own r i j xs ys zs (triangles_on o own) is js ls
  filled =
      record {
        answered = sym m.answer ∙ e;
        px = m.px;
        py = m.py;
        pz = m.pz;
        many = refl;
        named = λ up x l. edges_named own up o x l;
        t0 = m.t0;
        t1 = m.t1;
        t2 = m.t2;
      }

  -- Read back from the three lists by the count handed back, the vertices are the surface's.
  pub mesh_vertices_held : vertices_in xs ys zs i ≡ vertices_on o s own
  mesh_vertices_held = vertices_held o s ks ds ws cnt r i j xs ys zs (triangles_on o own) is js ls filled

  -- So are the triangles.
  pub mesh_triangles_held : triangles_in is js ls j ≡ map (λ (x : Three ℕ). triangle x.a x.b x.c) (triangles_on o own)
  mesh_triangles_held = (triangles_taken o s ks ds ws cnt r i j xs ys zs (triangles_on o own) is js ls filled).0

  -- The lengths pass: never a 2.
  pub mesh_lengths_pass : set_ok (length xs) (length ys) (length zs) i && set_ok (length is) (length js) (length ls) j ≡ true
  mesh_lengths_pass = lengths_pass o s ks ds ws cnt r i j xs ys zs (triangles_on o own) is js ls filled

  -- The vertices and the triangles pass: never a 10.
  pub mesh_passes : every vertex_ok (vertices_in xs ys zs i) && every (triangle_ok i) (triangles_in is js ls j) ≡ true
  mesh_passes = passes o s ks ds ws cnt r i j xs ys zs (triangles_on o own) is js ls filled

  -- So the area is answered, and the box.
  pub mesh_area : area_answer xs ys zs i is js ls j ≡ Ok (area_from (vertices_in xs ys zs i) zero32 (triangles_in is js ls j))
  mesh_area = area o s ks ds ws cnt r i j xs ys zs (triangles_on o own) is js ls filled

  pub mesh_box : box_answer xs ys zs i ≡ box_of (vertices_in xs ys zs i)
  mesh_box = box o s ks ds ws cnt r i j xs ys zs (triangles_on o own) is js ls filled

  -- And the mesh is written as a file, or refused for room alone.
  pub mesh_written : (room : ℕ) → room ≤ 52428884 → export_answer xs ys zs i is js ls j room ≡ room_for (84 + 50 * j) room
  mesh_written = written o s ks ds ws cnt r i j xs ys zs (triangles_on o own) is js ls filled

-- ---- of the turned mesh's call

-- turned, a triangle names the same vertices
turn_below : (b : Bool) (f : Three ℕ) (n : ℕ) → (f.a < n) × (f.b < n) × (f.c < n) → ((turn_if b f).a < n) × ((turn_if b f).b < n) × ((turn_if b f).c < n)
unfolding turn_if
turn_below true f n h = (h.0, h.2, h.1)
turn_below false f n h = h

module _ (s : Settings) (ks : List ℕ) (ds ws : List Float) (cnt : ℕ) (r : Rooms) (a : Result (ℕ × ℕ) Refusal) (as' bs : List ℕ)
    (xs ys zs us vs ws' : List Float) (is js ls : List ℕ) (m : IsTurnedMesh s (table ks ds ws cnt) r a as' bs xs ys zs us vs ws' is js ls)
    (i j : ℕ) (e : a ≡ Ok (i, j)) where
  abbrev lent : Table
  lent = table ks ds ws cnt

  abbrev turned : List (Three ℕ)
  turned = turned_triangles (rows lent)

  turned_filled : Filled Closed s lent r i j xs ys zs turned is js ls
  unfolding turned_triangles
  turned_filled =
      record {
        answered = sym m.answer ∙ e;
        px = m.px;
        py = m.py;
        pz = m.pz;
        many = length-map (closed_triangles (rows lent)) (outwards (rows lent) (closed_edges (rows lent)));
        named = λ up x l.
            let g = map_in (outwards (rows lent) (closed_edges (rows lent))) (closed_triangles (rows lent)) l in
            rw g.2
            (turn_below (looks_in (rows lent) (closed_edges (rows lent)) g.0) g.0 (length (closed_edges (rows lent)))
            (edges_named lent up Closed g.0 g.1));
        t0 = m.t0;
        t1 = m.t1;
        t2 = m.t2;
      }

  -- Never a 2, never a 10.
  pub turned_lengths_pass : set_ok (length xs) (length ys) (length zs) i && set_ok (length is) (length js) (length ls) j ≡ true
  turned_lengths_pass = lengths_pass Closed s ks ds ws cnt r i j xs ys zs turned is js ls turned_filled

  pub turned_passes : every vertex_ok (vertices_in xs ys zs i) && every (triangle_ok i) (triangles_in is js ls j) ≡ true
  turned_passes = passes Closed s ks ds ws cnt r i j xs ys zs turned is js ls turned_filled

  -- So the area is answered, and the box, and the mesh is written as a file, or refused for room alone.
  pub turned_area : area_answer xs ys zs i is js ls j ≡ Ok (area_from (vertices_in xs ys zs i) zero32 (triangles_in is js ls j))
  turned_area = area Closed s ks ds ws cnt r i j xs ys zs turned is js ls turned_filled

  pub turned_box : box_answer xs ys zs i ≡ box_of (vertices_in xs ys zs i)
  turned_box = box Closed s ks ds ws cnt r i j xs ys zs turned is js ls turned_filled

  pub turned_written : (room : ℕ) → room ≤ 52428884 → export_answer xs ys zs i is js ls j room ≡ room_for (84 + 50 * j) room
  turned_written = written Closed s ks ds ws cnt r i j xs ys zs turned is js ls turned_filled
