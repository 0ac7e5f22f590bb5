-- `vertices::list_vertices` meets its contract: it is its two parts.
-- Assumes nothing.
use Rattle.vertices.proofs.list_vertices.Goals as goal

pub returns : goal.returns
returns c =
    let p = c.list_places.ensures in
    let n = c.list_normals.ensures in
    record {
      px_after = p.px_after;
      py_after = p.py_after;
      pz_after = p.pz_after;
      nx_after = n.nx_after;
      ny_after = n.ny_after;
      nz_after = n.nz_after;
    }
