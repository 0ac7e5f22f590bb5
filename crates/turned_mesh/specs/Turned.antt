-- The closed mesh turned outwards, in eleven lent lists.
use Rattle.std.specs.Prelude.{ℕ, ◌≡◌, List, [], Float, Result}
use Rattle.floats.specs.Floats.{zero32}
use Rattle.lists.specs.Threes.{column0, column1, column2}
use Rattle.table.specs.Table.{Table, rows}
use Rattle.table.specs.declared.Settings.{Settings}
use Rattle.edges.specs.Listing.{firsts, seconds}
use Rattle.edges.specs.declared.Surface.TheVariants.{Closed}
use Rattle.slopes.specs.Vertices.{xs_of, ys_of, zs_of}
use Rattle.slopes.specs.Normals.{parts_x, parts_y, parts_z}
use Rattle.mesh.specs.declared.Rooms.{Rooms}
use Rattle.mesh.specs.Mesh.{surface_edges, vertices_on, normals_on, mesh_answer_on, held_in}
use Rattle.winding.specs.Winding.{turned_triangles}
use Rattle.refusals.specs.declared.Refusal.{Refusal}

-- the answer, edges, vertices and normals of the closed mesh, no groups, and its triangles turned outwards
pub record IsTurnedMesh (s : Settings) (t : Table) (r : Rooms) (a : Result (ℕ × ℕ) Refusal) (as' bs : List ℕ)
    (xs ys zs us vs ws : List Float) (is js ks : List ℕ) : Type 0 where
  pub answer : a ≡ mesh_answer_on Closed s t r
  pub first : as' ≡ held_in 0 (mesh_answer_on Closed s t r) r.first (firsts (surface_edges Closed t))
  pub second : bs ≡ held_in 0 (mesh_answer_on Closed s t r) r.second (seconds (surface_edges Closed t))
  pub px : xs ≡ held_in zero32 (mesh_answer_on Closed s t r) r.px (xs_of (vertices_on Closed s t))
  pub py : ys ≡ held_in zero32 (mesh_answer_on Closed s t r) r.py (ys_of (vertices_on Closed s t))
  pub pz : zs ≡ held_in zero32 (mesh_answer_on Closed s t r) r.pz (zs_of (vertices_on Closed s t))
  pub nx : us ≡ held_in zero32 (mesh_answer_on Closed s t r) r.nx (parts_x (normals_on Closed s t))
  pub ny : vs ≡ held_in zero32 (mesh_answer_on Closed s t r) r.ny (parts_y (normals_on Closed s t))
  pub nz : ws ≡ held_in zero32 (mesh_answer_on Closed s t r) r.nz (parts_z (normals_on Closed s t))
  pub groups : [] ≡ held_in {A = ℕ} 0 (mesh_answer_on Closed s t r) r.groups []
  pub t0 : is ≡ held_in 0 (mesh_answer_on Closed s t r) r.t0 (column0 (turned_triangles (rows t)))
  pub t1 : js ≡ held_in 0 (mesh_answer_on Closed s t r) r.t1 (column1 (turned_triangles (rows t)))
  pub t2 : ks ≡ held_in 0 (mesh_answer_on Closed s t r) r.t2 (column2 (turned_triangles (rows t)))
