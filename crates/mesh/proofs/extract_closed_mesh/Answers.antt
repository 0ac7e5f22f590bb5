-- `mesh::extract_closed_mesh` meets its contract: the mesh of the closed surface, with a list of no places for its groups.
-- Assumes nothing.
use Rattle.mesh.proofs.ShutLaws.{nothing_held}
use Rattle.mesh.proofs.extract_closed_mesh.Goals as goal

pub returns : goal.returns
returns c =
    let m = c.extract.ensures in
    record {
      answer = m.answer;
      first = m.first;
      second = m.second;
      px = m.px;
      py = m.py;
      pz = m.pz;
      nx = m.nx;
      ny = m.ny;
      nz = m.nz;
      groups = nothing_held _;
      t0 = m.t0;
      t1 = m.t1;
      t2 = m.t2;
    }
