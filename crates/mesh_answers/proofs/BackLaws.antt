-- What a call hands back, from what the layer below answers and what is read off its answer. Assumes nothing.
use Rattle.std.specs.Prelude.{Result}
use Prim.Native.Nat.{ℕ}
use mathlib.Core.Path.{◌≡◌, refl, ap, ◌∙◌}
use mathlib.Core.List.{List}
use lib.Ieee.{Float}
use Rattle.table.specs.declared.Settings.{Settings}
use Rattle.table.specs.Table.{Table}
use Rattle.esdf.specs.Compute as march
use Rattle.edges.specs.declared.Surface.{Surface}
use Rattle.mesh.specs.declared.Rooms.{Rooms}
use Rattle.mesh.specs.Mesh.{IsMeshOn}
use Rattle.mesh_answers.specs.Marching.{march_back, march_handed}
use Rattle.turned_mesh.specs.Turned.{IsTurnedMesh}
use Rattle.mesh_answers.specs.Meshing.{MeshBackOn, TurnedBack}
use Rattle.answers.specs.Given.{given}
use Rattle.refusals.specs.Refusals.{answer_number}
use Rattle.refusals.specs.declared.Refusal.{Refusal}

pub march_back_lem :
    {o o' : march.Outcome}
    {n rows takings : ℕ}
    → o ≡ o'
    → (n ≡ answer_number o.answer) × ((rows ≡ (given (0, 0) o.answer).0) × (takings ≡ (given (0, 0) o.answer).1))
    → march_back n o.keys o.distances o.estimates o.cells rows takings ≡ march_handed o'
march_back_lem {o} e p = rw (p.0, p.1.0, p.1.1) (ap march_handed e)

pub mesh_back :
    {o : Surface}
    {s : Settings}
    {t : Table}
    {r : Rooms}
    {a : Result (ℕ × ℕ) Refusal}
    {as' bs : List ℕ}
    {xs ys zs us vs ws : List Float}
    {gs is js ks : List ℕ}
    {n edges triangles : ℕ}
    → IsMeshOn o s t r a as' bs xs ys zs us vs ws gs is js ks
    → (n ≡ answer_number a) × ((edges ≡ (given (0, 0) a).0) × (triangles ≡ (given (0, 0) a).1))
    → MeshBackOn o s t r n edges triangles as' bs xs ys zs us vs ws gs is js ks
mesh_back e p =
    record {
      answer = p.0 ∙ ap answer_number e.answer;
      edge_count = p.1.0 ∙ ap (λ (b : Result (ℕ × ℕ) Refusal). (given (0, 0) b).0) e.answer;
      triangle_count = p.1.1 ∙ ap (λ (b : Result (ℕ × ℕ) Refusal). (given (0, 0) b).1) e.answer;
      lists =
          record {
            answer = refl;
            first = e.first;
            second = e.second;
            px = e.px;
            py = e.py;
            pz = e.pz;
            nx = e.nx;
            ny = e.ny;
            nz = e.nz;
            groups = e.groups;
            t0 = e.t0;
            t1 = e.t1;
            t2 = e.t2;
          };
    }

pub turned_back :
    {s : Settings}
    {t : Table}
    {r : Rooms}
    {a : Result (ℕ × ℕ) Refusal}
    {as' bs : List ℕ}
    {xs ys zs us vs ws : List Float}
    {is js ks : List ℕ}
    {n edges triangles : ℕ}
    → IsTurnedMesh s t r a as' bs xs ys zs us vs ws is js ks
    → (n ≡ answer_number a) × ((edges ≡ (given (0, 0) a).0) × (triangles ≡ (given (0, 0) a).1))
    → TurnedBack s t r n edges triangles as' bs xs ys zs us vs ws is js ks
turned_back e p =
    record {
      answer = p.0 ∙ ap answer_number e.answer;
      edge_count = p.1.0 ∙ ap (λ (b : Result (ℕ × ℕ) Refusal). (given (0, 0) b).0) e.answer;
      triangle_count = p.1.1 ∙ ap (λ (b : Result (ℕ × ℕ) Refusal). (given (0, 0) b).1) e.answer;
      lists =
          record {
            answer = refl;
            first = e.first;
            second = e.second;
            px = e.px;
            py = e.py;
            pz = e.pz;
            nx = e.nx;
            ny = e.ny;
            nz = e.nz;
            groups = e.groups;
            t0 = e.t0;
            t1 = e.t1;
            t2 = e.t2;
          };
    }
