-- What the calls on meshes hand back: nothing, which is 0, unless the answer is 0.
use Rattle.std.specs.Prelude.{ℕ, ◌-◌, ◌≡◌, cond, List, ltb, Float}
use Rattle.table.specs.declared.Settings.{Settings}
use Rattle.table.specs.Table.{Table}
use Rattle.edges.specs.declared.Surface.{Surface}
use Rattle.edges.specs.declared.Surface.TheVariants.{Open, Closed}
use Rattle.mesh.specs.declared.Rooms.{Rooms}
use Rattle.mesh.specs.Mesh.{mesh_answer_on, IsMeshOn}
use Rattle.turned_mesh.specs.Turned.{IsTurnedMesh}
use Rattle.groups.specs.declared.Span.{Span}
use Rattle.slopes.specs.declared.Vertex.{Vertex}
use Rattle.refusals.specs.Refusals.{answer_number}
use Rattle.answers.specs.Given.{given, no_metres}

-- what the mesh of a surface hands back: its number, its counts, and what the twelve lists hold
pub record MeshBackOn (o : Surface) (s : Settings) (t : Table) (r : Rooms) (number edges triangles : ℕ) (as' bs : List ℕ)
    (xs ys zs us vs ws : List Float) (gs is js ks : List ℕ) : Type 0 where
  pub answer : number ≡ answer_number (mesh_answer_on o s t r)
  pub edge_count : edges ≡ (given (0, 0) (mesh_answer_on o s t r)).0
  pub triangle_count : triangles ≡ (given (0, 0) (mesh_answer_on o s t r)).1
  pub lists : IsMeshOn o s t r (mesh_answer_on o s t r) as' bs xs ys zs us vs ws gs is js ks

-- the same of document 01's
abbrev pub MeshBack : Settings → Table → Rooms → ℕ → ℕ → ℕ → List ℕ → List ℕ
    → List Float → List Float → List Float → List Float → List Float → List Float
    → List ℕ → List ℕ → List ℕ → List ℕ
    → Type 0
MeshBack = MeshBackOn Open

-- what the turned mesh hands back
pub record TurnedBack (s : Settings) (t : Table) (r : Rooms) (number edges triangles : ℕ) (as' bs : List ℕ)
    (xs ys zs us vs ws : List Float) (is js ks : List ℕ) : Type 0 where
  pub answer : number ≡ answer_number (mesh_answer_on Closed s t r)
  pub edge_count : edges ≡ (given (0, 0) (mesh_answer_on Closed s t r)).0
  pub triangle_count : triangles ≡ (given (0, 0) (mesh_answer_on Closed s t r)).1
  pub lists : IsTurnedMesh s t r (mesh_answer_on Closed s t r) as' bs xs ys zs us vs ws is js ks

-- where a cell's edge numbers stand, and how many there are; both 0 where there are none
abbrev pub span_start : Span → ℕ
span_start s = cond (ltb s.start s.end) s.start 0

abbrev pub span_length : Span → ℕ
span_length s = s.end - s.start

-- ---- what stands for nothing
abbrev pub no_corner : Vertex
no_corner = record { x = no_metres; y = no_metres; z = no_metres }

abbrev pub no_box : Vertex × Vertex
no_box = (no_corner, no_corner)
