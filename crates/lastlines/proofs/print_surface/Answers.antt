-- `lastlines::print_surface` meets its contract: it prints what the mesh's call answers.
-- Assumes nothing.
use Rattle.lastlines.proofs.LineLaws.{edges_in_lem, surface}
use Rattle.lastlines.proofs.print_surface.Goals as goal

pub print_mesh-requires : goal.print_mesh-requires
print_mesh-requires c = (
  edges_in_lem _ _ c.extract_mesh_from_tsdf-meshed.ensures.answer,
  c.extract_mesh_from_tsdf-meshed.auto.px,
  c.extract_mesh_from_tsdf-meshed.auto.py,
  c.extract_mesh_from_tsdf-meshed.auto.pz,
)

pub returns : goal.returns
returns c =
    surface _ _ _ c.extract_mesh_from_tsdf-meshed.ensures.answer
    c.extract_mesh_from_tsdf-meshed.ensures.px
    c.extract_mesh_from_tsdf-meshed.ensures.py
    c.extract_mesh_from_tsdf-meshed.ensures.pz c.print_mesh.ensures
