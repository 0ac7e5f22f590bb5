-- The mesh of a table: edges, vertices with normals, groups and triangles, in twelve lent lists.
use Rattle.std.specs.Prelude.{ℕ, ◌≡◌, Bool, cond, ◌&&◌, List, [], map, eqb, leb, Float, length, replicate, Ok, Err, Result}
use Rattle.floats.specs.Floats.{zero32}
use Rattle.lists.specs.Padding.{padded}
use Rattle.refusals.specs.declared.Refusal.TheVariants.{NoPlace}
use Rattle.refusals.specs.Refusals.{number_of}
use Rattle.table.specs.Table.{Table, rows, check_with}
use Rattle.table.specs.declared.Settings.{Settings}
use Rattle.table.specs.Rows.{keys_of}
use Rattle.edges.specs.Edges.{Edge}
use Rattle.edges.specs.ZeroCrossing.{zero_crossing_edges}
use Rattle.edges.specs.declared.Surface.{Surface}
use Rattle.edges.specs.declared.Surface.TheVariants.{Open, Closed}
use Rattle.edges.specs.Listing.{firsts, seconds, outputs_ok}
use Rattle.slopes.specs.declared.Vertex.{Vertex}
use Rattle.slopes.specs.declared.Normal.{Normal}
use Rattle.vertices.specs.StoredRows.{distance_in}
use Rattle.slopes.specs.Vertices.{vertex_at, xs_of, ys_of, zs_of}
use Rattle.slopes.specs.Normals.{normals_of, parts_x, parts_y, parts_z}
use Rattle.groups.specs.Groups.{groups}
use Rattle.lists.specs.Threes.{Three, column0, column1, column2}
use Rattle.triangles.specs.Triangles.{triangles}
use Rattle.tetrahedra.specs.ClosedEdges.{closed_edges}
use Rattle.tetrahedra.specs.ClosedTriangles.{closed_triangles}
use Rattle.mesh.specs.declared.Rooms.{Rooms}
use Rattle.refusals.specs.declared.Refusal.{Refusal}

-- ---- of any surface

-- the edges
abbrev pub surface_edges : Surface → Table → List Edge
surface_edges Open t = zero_crossing_edges (rows t)
surface_edges Closed t = closed_edges (rows t)

-- vertex i comes from edge i
abbrev pub vertices_on : Surface → Settings → Table → List Vertex
vertices_on o s t = map (λ (e : Edge). vertex_at (distance_in (rows t)) s.voxel_size.0 e.first e.second) (surface_edges o t)

-- its normal is that at the edge's first cell
abbrev pub normals_on : Surface → Settings → Table → List Normal
normals_on o s t = normals_of (distance_in (rows t)) s.voxel_size.0 (firsts (surface_edges o t))

-- the edge numbers grouped by cell, of which the closed surface has none, and the triangles
abbrev pub groups_on : Surface → Table → List ℕ
groups_on Open t = groups (surface_edges Open t) (keys_of (rows t))
groups_on Closed t = []

abbrev pub triangles_on : Surface → Table → List (Three ℕ)
triangles_on Open t = triangles (surface_edges Open t) (keys_of (rows t))
triangles_on Closed t = closed_triangles (rows t)

-- the lengths of the twelve lists
abbrev pub rooms : ℕ → ℕ → ℕ → ℕ → ℕ → ℕ → ℕ → ℕ → ℕ → ℕ → ℕ → ℕ → Rooms
rooms first second px py pz nx ny nz groups t0 t1 t2 =
    record { first = first; second = second; px = px; py = py; pz = pz; nx = nx; ny = ny; nz = nz; groups = groups; t0 = t0; t1 = t1; t2 = t2 }

-- edges fill two lists, vertices six, groups one, triangles three; each set equally long, at most 1,048,576 places
abbrev pub rooms_ok : Rooms → Bool
rooms_ok r =
    outputs_ok r.first r.second
    && ((((eqb r.px r.py && eqb r.px r.pz) && (eqb r.px r.nx && (eqb r.px r.ny && eqb r.px r.nz))) && leb r.px 1048576)
    && (leb r.groups 1048576 && ((eqb r.t0 r.t1 && eqb r.t0 r.t2) && leb r.t0 1048576)))

-- refusals 1, 2 and 3
unfoldable pub mesh_check : Settings → Table → Rooms → Result (Unit {0}) Refusal
mesh_check s t r = check_with (rooms_ok r) s t

-- edges, vertices, groups and triangles each have room in their own list
abbrev pub have_room_on : Surface → Table → Rooms → Bool
have_room_on o t r =
    leb (length (surface_edges o t)) r.first
    && (leb (length (surface_edges o t)) r.px
    && (leb (length (groups_on o t)) r.groups && leb (length (triangles_on o t)) r.t0))

-- what the tests refuse stays refused; otherwise 6 exactly when one of them would outgrow its own list
unfoldable pub meshed_on : Surface → Result (Unit {0}) Refusal → Table → Rooms → Result (ℕ × ℕ) Refusal
meshed_on o (Ok tt) t r = cond (have_room_on o t r) (Ok (length (surface_edges o t), length (triangles_on o t))) (Err NoPlace)
meshed_on o (Err why) t r = Err why

-- the answer to a call
unfoldable pub mesh_answer_on : Surface → Settings → Table → Rooms → Result (ℕ × ℕ) Refusal
unfolding mesh_check meshed_on
mesh_answer_on o s t r = meshed_on o (mesh_check s t r) t r

-- what a list of a given room then holds: what was found and then v, or v throughout where it is refused
unfoldable pub held_in : {A : Type 0} → A → Result (ℕ × ℕ) Refusal → ℕ → List A → List A
held_in v (Ok (n, m)) room found = padded v room found
held_in v (Err why) room found = replicate room v

-- the answer, and what each of the twelve lists holds
pub record IsMeshOn (o : Surface) (s : Settings) (t : Table) (r : Rooms) (a : Result (ℕ × ℕ) Refusal) (as' bs : List ℕ)
    (xs ys zs us vs ws : List Float) (gs is js ks : List ℕ) : Type 0 where
  pub answer : a ≡ mesh_answer_on o s t r
  pub first : as' ≡ held_in 0 (mesh_answer_on o s t r) r.first (firsts (surface_edges o t))
  pub second : bs ≡ held_in 0 (mesh_answer_on o s t r) r.second (seconds (surface_edges o t))
  pub px : xs ≡ held_in zero32 (mesh_answer_on o s t r) r.px (xs_of (vertices_on o s t))
  pub py : ys ≡ held_in zero32 (mesh_answer_on o s t r) r.py (ys_of (vertices_on o s t))
  pub pz : zs ≡ held_in zero32 (mesh_answer_on o s t r) r.pz (zs_of (vertices_on o s t))
  pub nx : us ≡ held_in zero32 (mesh_answer_on o s t r) r.nx (parts_x (normals_on o s t))
  pub ny : vs ≡ held_in zero32 (mesh_answer_on o s t r) r.ny (parts_y (normals_on o s t))
  pub nz : ws ≡ held_in zero32 (mesh_answer_on o s t r) r.nz (parts_z (normals_on o s t))
  pub groups : gs ≡ held_in 0 (mesh_answer_on o s t r) r.groups (groups_on o t)
  pub t0 : is ≡ held_in 0 (mesh_answer_on o s t r) r.t0 (column0 (triangles_on o t))
  pub t1 : js ≡ held_in 0 (mesh_answer_on o s t r) r.t1 (column1 (triangles_on o t))
  pub t2 : ks ≡ held_in 0 (mesh_answer_on o s t r) r.t2 (column2 (triangles_on o t))

-- ---- of document 01's surface

abbrev pub edges_of : Table → List Edge
edges_of t = surface_edges Open t

abbrev pub vertices_of : Settings → Table → List Vertex
vertices_of s t = vertices_on Open s t

abbrev pub normals : Settings → Table → List Normal
normals s t = normals_on Open s t

abbrev pub groups_of : Table → List ℕ
groups_of t = groups_on Open t

abbrev pub triangles_of : Table → List (Three ℕ)
triangles_of t = triangles_on Open t

abbrev pub have_room : Table → Rooms → Bool
have_room t r = have_room_on Open t r

abbrev pub meshed_if : Result (Unit {0}) Refusal → Table → Rooms → Result (ℕ × ℕ) Refusal
meshed_if c t r = meshed_on Open c t r

abbrev pub mesh_answer : Settings → Table → Rooms → Result (ℕ × ℕ) Refusal
mesh_answer s t r = mesh_answer_on Open s t r

abbrev pub IsMesh : Settings → Table → Rooms → Result (ℕ × ℕ) Refusal → List ℕ → List ℕ
    → List Float → List Float → List Float → List Float → List Float → List Float
    → List ℕ → List ℕ → List ℕ → List ℕ
    → Type 0
IsMesh = IsMeshOn Open

-- ---- of the surface that closes (document 02, No. 14)

-- the answer, and what each of the eleven lists holds: there are no groups
abbrev pub IsClosedMesh : Settings → Table → Rooms → Result (ℕ × ℕ) Refusal → List ℕ → List ℕ
    → List Float → List Float → List Float → List Float → List Float → List Float
    → List ℕ → List ℕ → List ℕ
    → Type 0
IsClosedMesh s t r a as' bs xs ys zs us vs ws is js ks = IsMeshOn Closed s t r a as' bs xs ys zs us vs ws [] is js ks

-- ---- what is answered

-- document 01's number of an answer, 0 where it is no refusal
abbrev pub meshed_number : Result (ℕ × ℕ) Refusal → ℕ
meshed_number (Ok (n, m)) = 0
meshed_number (Err why) = number_of why
