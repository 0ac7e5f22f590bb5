-- Every exported contract settles its outcome: two that meet it are equal, in the number answered and in every lent place.
-- Assumes nothing.
use mathlib.Core.Path.{◌≡◌, sym, ap, ◌∙◌}
use Rattle.answers.specs.Readings.{FuseBack, BatchBack}
use Rattle.mesh_answers.specs.Marching.{MarchBack}
use Rattle.akfelzun.proofs.keys.akf_index64_new.Reads as akf_index64_new
use Rattle.akfelzun.proofs.keys.akf_decode_coords.Reads as akf_decode_coords
use Rattle.akfelzun.proofs.keys.akf_neighbors_index64.Reads as akf_neighbors_index64
use Rattle.akfelzun.proofs.keys.akf_root.Reads as akf_root
use Rattle.akfelzun.proofs.keys.akf_snap_to_nearest_bcc.Reads as akf_snap_to_nearest_bcc
use Rattle.akfelzun.proofs.keys.akf_physical_to_bcc_voxel.Reads as akf_physical_to_bcc_voxel
use Rattle.akfelzun.proofs.keys.akf_is_valid_bcc.Reads as akf_is_valid_bcc
use Rattle.akfelzun.proofs.readings.akf_update_from_depth.Reads as akf_update_from_depth
use Rattle.akfelzun.proofs.readings.akf_update_from_depth_ray.Reads as akf_update_from_depth_ray
use Rattle.akfelzun.proofs.readings.akf_batch_update.Reads as akf_batch_update
use Rattle.akfelzun.proofs.questions.akf_tsdf_get_distance.Reads as akf_tsdf_get_distance
use Rattle.akfelzun.proofs.questions.akf_tsdf_get_weight.Reads as akf_tsdf_get_weight
use Rattle.akfelzun.proofs.questions.akf_is_surface_voxel.Reads as akf_is_surface_voxel
use Rattle.akfelzun.proofs.questions.akf_tsdf_stats.Reads as akf_tsdf_stats
use Rattle.akfelzun.proofs.questions.akf_get_surface_voxels.Reads as akf_get_surface_voxels
use Rattle.akfelzun.proofs.questions.akf_get_zero_crossing_edges.Reads as akf_get_zero_crossing_edges
use Rattle.akfelzun.proofs.march.akf_compute_from_tsdf.Reads as akf_compute_from_tsdf
use Rattle.akfelzun.proofs.march.akf_esdf_get_distance.Reads as akf_esdf_get_distance
use Rattle.akfelzun.proofs.march.akf_is_free_space.Reads as akf_is_free_space
use Rattle.akfelzun.proofs.march.akf_get_gradient.Reads as akf_get_gradient
use Rattle.akfelzun.proofs.march.akf_get_voxels_within_distance.Reads as akf_get_voxels_within_distance
use Rattle.akfelzun.proofs.march.akf_esdf_stats.Reads as akf_esdf_stats
use Rattle.akfelzun.proofs.meshing.akf_extract_mesh_from_tsdf.Reads as akf_extract_mesh_from_tsdf
use Rattle.akfelzun.proofs.meshing.akf_extract_closed_mesh.Reads as akf_extract_closed_mesh
use Rattle.akfelzun.proofs.meshing.akf_extract_turned_mesh.Reads as akf_extract_turned_mesh
use Rattle.akfelzun.proofs.meshing.akf_cell_edges.Reads as akf_cell_edges
use Rattle.akfelzun.proofs.meshing.akf_surface_area.Reads as akf_surface_area
use Rattle.akfelzun.proofs.meshing.akf_bounding_box.Reads as akf_bounding_box
use Rattle.akfelzun.proofs.meshing.akf_mesh_stats.Reads as akf_mesh_stats
use Rattle.akfelzun.proofs.files.akf_export_mesh_stl.Reads as akf_export_mesh_stl
use Rattle.akfelzun.proofs.files.akf_import_mesh_stl.Reads as akf_import_mesh_stl

pub akf_index64_new_determined :
    (κs : _) (a : _) (r r' : _) (s s' : _)
    → akf_index64_new.Post κs a r s
    → akf_index64_new.Post κs a r' s'
    → (r ≡ r') × (s.1.1.1.1.0.now ≡ s'.1.1.1.1.0.now)
akf_index64_new_determined κs a r r' s s' p q = (p.0 ∙ sym q.0, p.1 ∙ sym q.1)

pub akf_decode_coords_determined :
    (κs : _) (a : _) (r r' : _) (s s' : _)
    → akf_decode_coords.Post κs a r s
    → akf_decode_coords.Post κs a r' s'
    → (r ≡ r') × (s.1.0.now ≡ s'.1.0.now) × (s.1.1.0.now ≡ s'.1.1.0.now) × (s.1.1.1.0.now ≡ s'.1.1.1.0.now)
akf_decode_coords_determined κs a r r' s s' p q = (p.0 ∙ sym q.0, p.1.0 ∙ sym q.1.0, p.1.1.0 ∙ sym q.1.1.0, p.1.1.1 ∙ sym q.1.1.1)

pub akf_neighbors_index64_determined :
    (κs : _) (a : _) (r r' : _) (s s' : _)
    → akf_neighbors_index64.Post κs a r s
    → akf_neighbors_index64.Post κs a r' s'
    → (r ≡ r') × (s.1.0.now ≡ s'.1.0.now) × (s.1.1.0.now ≡ s'.1.1.0.now)
akf_neighbors_index64_determined κs a r r' s s' p q = (p.0 ∙ sym q.0, p.1.0 ∙ sym q.1.0, p.1.1 ∙ sym q.1.1)

pub akf_root_determined :
    (κs : _) (a : _) (r r' : _) (s s' : _)
    → akf_root.Post κs a r s
    → akf_root.Post κs a r' s'
    → (r ≡ r') × (s.1.0.now ≡ s'.1.0.now)
akf_root_determined κs a r r' s s' p q = (p.0 ∙ sym q.0, p.1 ∙ sym q.1)

pub akf_snap_to_nearest_bcc_determined :
    (κs : _) (a : _) (r r' : _) (s s' : _)
    → akf_snap_to_nearest_bcc.Post κs a r s
    → akf_snap_to_nearest_bcc.Post κs a r' s'
    → (r ≡ r')
    × (s.1.1.1.0.now ≡ s'.1.1.1.0.now)
    × (s.1.1.1.1.0.now ≡ s'.1.1.1.1.0.now)
    × (s.1.1.1.1.1.0.now ≡ s'.1.1.1.1.1.0.now)
akf_snap_to_nearest_bcc_determined κs a r r' s s' p q = (
  p.0 ∙ sym q.0,
  p.1.0 ∙ sym q.1.0,
  p.1.1.0 ∙ sym q.1.1.0,
  p.1.1.1 ∙ sym q.1.1.1,
)

pub akf_physical_to_bcc_voxel_determined :
    (κs : _) (a : _) (r r' : _) (s s' : _)
    → akf_physical_to_bcc_voxel.Post κs a r s
    → akf_physical_to_bcc_voxel.Post κs a r' s'
    → (r ≡ r')
    × (s.1.1.1.1.0.now ≡ s'.1.1.1.1.0.now)
    × (s.1.1.1.1.1.0.now ≡ s'.1.1.1.1.1.0.now)
    × (s.1.1.1.1.1.1.0.now ≡ s'.1.1.1.1.1.1.0.now)
akf_physical_to_bcc_voxel_determined κs a r r' s s' p q = (
  p.0 ∙ sym q.0,
  p.1.0 ∙ sym q.1.0,
  p.1.1.0 ∙ sym q.1.1.0,
  p.1.1.1 ∙ sym q.1.1.1,
)

pub akf_is_valid_bcc_determined : (κs : _) (a : _) (r r' : _) (s s' : _) → akf_is_valid_bcc.Post κs a r s → akf_is_valid_bcc.Post κs a r' s' → r ≡ r'
akf_is_valid_bcc_determined κs a r r' s s' p q = p ∙ sym q

pub akf_update_from_depth_determined :
    (κs : _) (a : _) (r r' : _) (s s' : _)
    → akf_update_from_depth.Post κs a r s
    → akf_update_from_depth.Post κs a r' s'
    → (r ≡ r')
    × (s.1.1.1.1.0.now ≡ s'.1.1.1.1.0.now)
    × (s.1.1.1.1.1.0.now ≡ s'.1.1.1.1.1.0.now)
    × (s.1.1.1.1.1.1.0.now ≡ s'.1.1.1.1.1.1.0.now)
    × (s.1.1.1.1.1.1.1.0.now ≡ s'.1.1.1.1.1.1.1.0.now)
akf_update_from_depth_determined κs a r r' s s' p q = (
  ap (λ (h : FuseBack). h.number) (p ∙ sym q),
  ap (λ (h : FuseBack). h.left.keys) (p ∙ sym q),
  ap (λ (h : FuseBack). h.left.distances) (p ∙ sym q),
  ap (λ (h : FuseBack). h.left.weights) (p ∙ sym q),
  ap (λ (h : FuseBack). h.left.count) (p ∙ sym q),
)

pub akf_update_from_depth_ray_determined :
    (κs : _) (a : _) (r r' : _) (s s' : _)
    → akf_update_from_depth_ray.Post κs a r s
    → akf_update_from_depth_ray.Post κs a r' s'
    → (r ≡ r')
    × (s.1.1.1.1.0.now ≡ s'.1.1.1.1.0.now)
    × (s.1.1.1.1.1.0.now ≡ s'.1.1.1.1.1.0.now)
    × (s.1.1.1.1.1.1.0.now ≡ s'.1.1.1.1.1.1.0.now)
    × (s.1.1.1.1.1.1.1.0.now ≡ s'.1.1.1.1.1.1.1.0.now)
akf_update_from_depth_ray_determined κs a r r' s s' p q = (
  ap (λ (h : FuseBack). h.number) (p ∙ sym q),
  ap (λ (h : FuseBack). h.left.keys) (p ∙ sym q),
  ap (λ (h : FuseBack). h.left.distances) (p ∙ sym q),
  ap (λ (h : FuseBack). h.left.weights) (p ∙ sym q),
  ap (λ (h : FuseBack). h.left.count) (p ∙ sym q),
)

pub akf_batch_update_determined :
    (κs : _) (a : _) (r r' : _) (s s' : _)
    → akf_batch_update.Post κs a r s
    → akf_batch_update.Post κs a r' s'
    → (r ≡ r')
    × (s.1.1.1.1.0.now ≡ s'.1.1.1.1.0.now)
    × (s.1.1.1.1.1.0.now ≡ s'.1.1.1.1.1.0.now)
    × (s.1.1.1.1.1.1.0.now ≡ s'.1.1.1.1.1.1.0.now)
    × (s.1.1.1.1.1.1.1.0.now ≡ s'.1.1.1.1.1.1.1.0.now)
    × (s.1.1.1.1.1.1.1.1.1.1.1.0.now ≡ s'.1.1.1.1.1.1.1.1.1.1.1.0.now)
    × (s.1.1.1.1.1.1.1.1.1.1.1.1.0.now ≡ s'.1.1.1.1.1.1.1.1.1.1.1.1.0.now)
    × (s.1.1.1.1.1.1.1.1.1.1.1.1.1.0.now ≡ s'.1.1.1.1.1.1.1.1.1.1.1.1.1.0.now)
    × (s.1.1.1.1.1.1.1.1.1.1.1.1.1.1.0.now ≡ s'.1.1.1.1.1.1.1.1.1.1.1.1.1.1.0.now)
akf_batch_update_determined κs a r r' s s' p q = (
  ap (λ (h : BatchBack). h.number) (p ∙ sym q),
  ap (λ (h : BatchBack). h.left.keys) (p ∙ sym q),
  ap (λ (h : BatchBack). h.left.distances) (p ∙ sym q),
  ap (λ (h : BatchBack). h.left.weights) (p ∙ sym q),
  ap (λ (h : BatchBack). h.left.count) (p ∙ sym q),
  ap (λ (h : BatchBack). h.counts.added) (p ∙ sym q),
  ap (λ (h : BatchBack). h.counts.changed) (p ∙ sym q),
  ap (λ (h : BatchBack). h.counts.far) (p ∙ sym q),
  ap (λ (h : BatchBack). h.at) (p ∙ sym q),
)

pub akf_tsdf_get_distance_determined :
    (κs : _) (a : _) (r r' : _) (s s' : _)
    → akf_tsdf_get_distance.Post κs a r s
    → akf_tsdf_get_distance.Post κs a r' s'
    → (r ≡ r') × (s.1.1.1.1.1.1.1.1.1.0.now ≡ s'.1.1.1.1.1.1.1.1.1.0.now)
akf_tsdf_get_distance_determined κs a r r' s s' p q = (p.0 ∙ sym q.0, p.1 ∙ sym q.1)

pub akf_tsdf_get_weight_determined :
    (κs : _) (a : _) (r r' : _) (s s' : _)
    → akf_tsdf_get_weight.Post κs a r s
    → akf_tsdf_get_weight.Post κs a r' s'
    → (r ≡ r') × (s.1.1.1.1.1.1.1.1.1.0.now ≡ s'.1.1.1.1.1.1.1.1.1.0.now)
akf_tsdf_get_weight_determined κs a r r' s s' p q = (p.0 ∙ sym q.0, p.1 ∙ sym q.1)

pub akf_is_surface_voxel_determined :
    (κs : _) (a : _) (r r' : _) (s s' : _)
    → akf_is_surface_voxel.Post κs a r s
    → akf_is_surface_voxel.Post κs a r' s'
    → (r ≡ r') × (s.1.1.1.1.1.1.1.1.1.1.0.now ≡ s'.1.1.1.1.1.1.1.1.1.1.0.now)
akf_is_surface_voxel_determined κs a r r' s s' p q = (p.0 ∙ sym q.0, p.1 ∙ sym q.1)

pub akf_tsdf_stats_determined :
    (κs : _) (a : _) (r r' : _) (s s' : _)
    → akf_tsdf_stats.Post κs a r s
    → akf_tsdf_stats.Post κs a r' s'
    → (r ≡ r')
    × (s.1.1.1.1.1.1.1.1.0.now ≡ s'.1.1.1.1.1.1.1.1.0.now)
    × (s.1.1.1.1.1.1.1.1.1.0.now ≡ s'.1.1.1.1.1.1.1.1.1.0.now)
    × (s.1.1.1.1.1.1.1.1.1.1.0.now ≡ s'.1.1.1.1.1.1.1.1.1.1.0.now)
    × (s.1.1.1.1.1.1.1.1.1.1.1.0.now ≡ s'.1.1.1.1.1.1.1.1.1.1.1.0.now)
    × (s.1.1.1.1.1.1.1.1.1.1.1.1.0.now ≡ s'.1.1.1.1.1.1.1.1.1.1.1.1.0.now)
akf_tsdf_stats_determined κs a r r' s s' p q = (
  p.0 ∙ sym q.0,
  p.1.0 ∙ sym q.1.0,
  p.1.1.0 ∙ sym q.1.1.0,
  p.1.1.1.0 ∙ sym q.1.1.1.0,
  p.1.1.1.1.0 ∙ sym q.1.1.1.1.0,
  p.1.1.1.1.1 ∙ sym q.1.1.1.1.1,
)

pub akf_get_surface_voxels_determined :
    (κs : _) (a : _) (r r' : _) (s s' : _)
    → akf_get_surface_voxels.Post κs a r s
    → akf_get_surface_voxels.Post κs a r' s'
    → (r ≡ r')
    × (s.1.1.1.1.1.1.1.1.1.0.now ≡ s'.1.1.1.1.1.1.1.1.1.0.now)
    × (s.1.1.1.1.1.1.1.1.1.1.0.now ≡ s'.1.1.1.1.1.1.1.1.1.1.0.now)
akf_get_surface_voxels_determined κs a r r' s s' p q = (p.0 ∙ sym q.0, p.1.0 ∙ sym q.1.0, p.1.1 ∙ sym q.1.1)

pub akf_get_zero_crossing_edges_determined :
    (κs : _) (a : _) (r r' : _) (s s' : _)
    → akf_get_zero_crossing_edges.Post κs a r s
    → akf_get_zero_crossing_edges.Post κs a r' s'
    → (r ≡ r')
    × (s.1.1.1.1.1.1.1.1.0.now ≡ s'.1.1.1.1.1.1.1.1.0.now)
    × (s.1.1.1.1.1.1.1.1.1.0.now ≡ s'.1.1.1.1.1.1.1.1.1.0.now)
    × (s.1.1.1.1.1.1.1.1.1.1.0.now ≡ s'.1.1.1.1.1.1.1.1.1.1.0.now)
akf_get_zero_crossing_edges_determined κs a r r' s s' p q = (
  p.0 ∙ sym q.0,
  p.1.0 ∙ sym q.1.0,
  p.1.1.0 ∙ sym q.1.1.0,
  p.1.1.1 ∙ sym q.1.1.1,
)

pub akf_compute_from_tsdf_determined :
    (κs : _) (a : _) (r r' : _) (s s' : _)
    → akf_compute_from_tsdf.Post κs a r s
    → akf_compute_from_tsdf.Post κs a r' s'
    → (r ≡ r')
    × (s.1.1.1.1.1.1.1.1.1.0.now ≡ s'.1.1.1.1.1.1.1.1.1.0.now)
    × (s.1.1.1.1.1.1.1.1.1.1.0.now ≡ s'.1.1.1.1.1.1.1.1.1.1.0.now)
    × (s.1.1.1.1.1.1.1.1.1.1.1.0.now ≡ s'.1.1.1.1.1.1.1.1.1.1.1.0.now)
    × (s.1.1.1.1.1.1.1.1.1.1.1.1.0.now ≡ s'.1.1.1.1.1.1.1.1.1.1.1.1.0.now)
    × (s.1.1.1.1.1.1.1.1.1.1.1.1.1.0.now ≡ s'.1.1.1.1.1.1.1.1.1.1.1.1.1.0.now)
    × (s.1.1.1.1.1.1.1.1.1.1.1.1.1.1.0.now ≡ s'.1.1.1.1.1.1.1.1.1.1.1.1.1.1.0.now)
akf_compute_from_tsdf_determined κs a r r' s s' p q = (
  ap (λ (h : MarchBack). h.number) (p ∙ sym q),
  ap (λ (h : MarchBack). h.keys) (p ∙ sym q),
  ap (λ (h : MarchBack). h.distances) (p ∙ sym q),
  ap (λ (h : MarchBack). h.estimates) (p ∙ sym q),
  ap (λ (h : MarchBack). h.cells) (p ∙ sym q),
  ap (λ (h : MarchBack). h.rows) (p ∙ sym q),
  ap (λ (h : MarchBack). h.takings) (p ∙ sym q),
)

pub akf_esdf_get_distance_determined :
    (κs : _) (a : _) (r r' : _) (s s' : _)
    → akf_esdf_get_distance.Post κs a r s
    → akf_esdf_get_distance.Post κs a r' s'
    → (r ≡ r') × (s.1.1.1.1.0.now ≡ s'.1.1.1.1.0.now)
akf_esdf_get_distance_determined κs a r r' s s' p q = (p.0 ∙ sym q.0, p.1 ∙ sym q.1)

pub akf_is_free_space_determined :
    (κs : _) (a : _) (r r' : _) (s s' : _)
    → akf_is_free_space.Post κs a r s
    → akf_is_free_space.Post κs a r' s'
    → (r ≡ r') × (s.1.1.1.1.1.0.now ≡ s'.1.1.1.1.1.0.now)
akf_is_free_space_determined κs a r r' s s' p q = (p.0 ∙ sym q.0, p.1 ∙ sym q.1)

pub akf_get_gradient_determined :
    (κs : _) (a : _) (r r' : _) (s s' : _)
    → akf_get_gradient.Post κs a r s
    → akf_get_gradient.Post κs a r' s'
    → (r ≡ r')
    × (s.1.1.1.1.0.now ≡ s'.1.1.1.1.0.now)
    × (s.1.1.1.1.1.0.now ≡ s'.1.1.1.1.1.0.now)
    × (s.1.1.1.1.1.1.0.now ≡ s'.1.1.1.1.1.1.0.now)
akf_get_gradient_determined κs a r r' s s' p q = (p.0 ∙ sym q.0, p.1.0 ∙ sym q.1.0, p.1.1.0 ∙ sym q.1.1.0, p.1.1.1 ∙ sym q.1.1.1)

pub akf_get_voxels_within_distance_determined :
    (κs : _) (a : _) (r r' : _) (s s' : _)
    → akf_get_voxels_within_distance.Post κs a r s
    → akf_get_voxels_within_distance.Post κs a r' s'
    → (r ≡ r')
    × (s.1.1.1.1.0.now ≡ s'.1.1.1.1.0.now)
    × (s.1.1.1.1.1.0.now ≡ s'.1.1.1.1.1.0.now)
    × (s.1.1.1.1.1.1.0.now ≡ s'.1.1.1.1.1.1.0.now)
akf_get_voxels_within_distance_determined κs a r r' s s' p q = (
  p.0 ∙ sym q.0,
  p.1.0 ∙ sym q.1.0,
  p.1.1.0 ∙ sym q.1.1.0,
  p.1.1.1 ∙ sym q.1.1.1,
)

pub akf_esdf_stats_determined :
    (κs : _) (a : _) (r r' : _) (s s' : _)
    → akf_esdf_stats.Post κs a r s
    → akf_esdf_stats.Post κs a r' s'
    → (r ≡ r')
    × (s.1.1.1.0.now ≡ s'.1.1.1.0.now)
    × (s.1.1.1.1.0.now ≡ s'.1.1.1.1.0.now)
    × (s.1.1.1.1.1.0.now ≡ s'.1.1.1.1.1.0.now)
    × (s.1.1.1.1.1.1.0.now ≡ s'.1.1.1.1.1.1.0.now)
    × (s.1.1.1.1.1.1.1.0.now ≡ s'.1.1.1.1.1.1.1.0.now)
akf_esdf_stats_determined κs a r r' s s' p q = (
  p.0 ∙ sym q.0,
  p.1.0 ∙ sym q.1.0,
  p.1.1.0 ∙ sym q.1.1.0,
  p.1.1.1.0 ∙ sym q.1.1.1.0,
  p.1.1.1.1.0 ∙ sym q.1.1.1.1.0,
  p.1.1.1.1.1 ∙ sym q.1.1.1.1.1,
)

pub akf_extract_mesh_from_tsdf_determined :
    (κs : _) (a : _) (r r' : _) (s s' : _)
    → akf_extract_mesh_from_tsdf.Post κs a r s
    → akf_extract_mesh_from_tsdf.Post κs a r' s'
    → (r ≡ r')
    × (s.1.1.1.1.1.1.1.1.0.now ≡ s'.1.1.1.1.1.1.1.1.0.now)
    × (s.1.1.1.1.1.1.1.1.1.0.now ≡ s'.1.1.1.1.1.1.1.1.1.0.now)
    × (s.1.1.1.1.1.1.1.1.1.1.0.now ≡ s'.1.1.1.1.1.1.1.1.1.1.0.now)
    × (s.1.1.1.1.1.1.1.1.1.1.1.0.now ≡ s'.1.1.1.1.1.1.1.1.1.1.1.0.now)
    × (s.1.1.1.1.1.1.1.1.1.1.1.1.0.now ≡ s'.1.1.1.1.1.1.1.1.1.1.1.1.0.now)
    × (s.1.1.1.1.1.1.1.1.1.1.1.1.1.0.now ≡ s'.1.1.1.1.1.1.1.1.1.1.1.1.1.0.now)
    × (s.1.1.1.1.1.1.1.1.1.1.1.1.1.1.0.now ≡ s'.1.1.1.1.1.1.1.1.1.1.1.1.1.1.0.now)
    × (s.1.1.1.1.1.1.1.1.1.1.1.1.1.1.1.0.now ≡ s'.1.1.1.1.1.1.1.1.1.1.1.1.1.1.1.0.now)
    × (s.1.1.1.1.1.1.1.1.1.1.1.1.1.1.1.1.0.now ≡ s'.1.1.1.1.1.1.1.1.1.1.1.1.1.1.1.1.0.now)
    × (s.1.1.1.1.1.1.1.1.1.1.1.1.1.1.1.1.1.0.now ≡ s'.1.1.1.1.1.1.1.1.1.1.1.1.1.1.1.1.1.0.now)
    × (s.1.1.1.1.1.1.1.1.1.1.1.1.1.1.1.1.1.1.0.now ≡ s'.1.1.1.1.1.1.1.1.1.1.1.1.1.1.1.1.1.1.0.now)
    × (s.1.1.1.1.1.1.1.1.1.1.1.1.1.1.1.1.1.1.1.0.now ≡ s'.1.1.1.1.1.1.1.1.1.1.1.1.1.1.1.1.1.1.1.0.now)
    × (s.1.1.1.1.1.1.1.1.1.1.1.1.1.1.1.1.1.1.1.1.0.now ≡ s'.1.1.1.1.1.1.1.1.1.1.1.1.1.1.1.1.1.1.1.1.0.now)
    × (s.1.1.1.1.1.1.1.1.1.1.1.1.1.1.1.1.1.1.1.1.1.0.now ≡ s'.1.1.1.1.1.1.1.1.1.1.1.1.1.1.1.1.1.1.1.1.1.0.now)
akf_extract_mesh_from_tsdf_determined κs a r r' s s' p q = (
  p.answer ∙ sym q.answer,
  p.lists.first ∙ sym q.lists.first,
  p.lists.second ∙ sym q.lists.second,
  p.lists.px ∙ sym q.lists.px,
  p.lists.py ∙ sym q.lists.py,
  p.lists.pz ∙ sym q.lists.pz,
  p.lists.nx ∙ sym q.lists.nx,
  p.lists.ny ∙ sym q.lists.ny,
  p.lists.nz ∙ sym q.lists.nz,
  p.lists.groups ∙ sym q.lists.groups,
  p.lists.t0 ∙ sym q.lists.t0,
  p.lists.t1 ∙ sym q.lists.t1,
  p.lists.t2 ∙ sym q.lists.t2,
  p.edge_count ∙ sym q.edge_count,
  p.triangle_count ∙ sym q.triangle_count,
)

pub akf_extract_closed_mesh_determined :
    (κs : _) (a : _) (r r' : _) (s s' : _)
    → akf_extract_closed_mesh.Post κs a r s
    → akf_extract_closed_mesh.Post κs a r' s'
    → (r ≡ r')
    × (s.1.1.1.1.1.1.1.1.0.now ≡ s'.1.1.1.1.1.1.1.1.0.now)
    × (s.1.1.1.1.1.1.1.1.1.0.now ≡ s'.1.1.1.1.1.1.1.1.1.0.now)
    × (s.1.1.1.1.1.1.1.1.1.1.0.now ≡ s'.1.1.1.1.1.1.1.1.1.1.0.now)
    × (s.1.1.1.1.1.1.1.1.1.1.1.0.now ≡ s'.1.1.1.1.1.1.1.1.1.1.1.0.now)
    × (s.1.1.1.1.1.1.1.1.1.1.1.1.0.now ≡ s'.1.1.1.1.1.1.1.1.1.1.1.1.0.now)
    × (s.1.1.1.1.1.1.1.1.1.1.1.1.1.0.now ≡ s'.1.1.1.1.1.1.1.1.1.1.1.1.1.0.now)
    × (s.1.1.1.1.1.1.1.1.1.1.1.1.1.1.0.now ≡ s'.1.1.1.1.1.1.1.1.1.1.1.1.1.1.0.now)
    × (s.1.1.1.1.1.1.1.1.1.1.1.1.1.1.1.0.now ≡ s'.1.1.1.1.1.1.1.1.1.1.1.1.1.1.1.0.now)
    × (s.1.1.1.1.1.1.1.1.1.1.1.1.1.1.1.1.0.now ≡ s'.1.1.1.1.1.1.1.1.1.1.1.1.1.1.1.1.0.now)
    × (s.1.1.1.1.1.1.1.1.1.1.1.1.1.1.1.1.1.0.now ≡ s'.1.1.1.1.1.1.1.1.1.1.1.1.1.1.1.1.1.0.now)
    × (s.1.1.1.1.1.1.1.1.1.1.1.1.1.1.1.1.1.1.0.now ≡ s'.1.1.1.1.1.1.1.1.1.1.1.1.1.1.1.1.1.1.0.now)
    × (s.1.1.1.1.1.1.1.1.1.1.1.1.1.1.1.1.1.1.1.0.now ≡ s'.1.1.1.1.1.1.1.1.1.1.1.1.1.1.1.1.1.1.1.0.now)
    × (s.1.1.1.1.1.1.1.1.1.1.1.1.1.1.1.1.1.1.1.1.0.now ≡ s'.1.1.1.1.1.1.1.1.1.1.1.1.1.1.1.1.1.1.1.1.0.now)
akf_extract_closed_mesh_determined κs a r r' s s' p q = (
  p.answer ∙ sym q.answer,
  p.lists.first ∙ sym q.lists.first,
  p.lists.second ∙ sym q.lists.second,
  p.lists.px ∙ sym q.lists.px,
  p.lists.py ∙ sym q.lists.py,
  p.lists.pz ∙ sym q.lists.pz,
  p.lists.nx ∙ sym q.lists.nx,
  p.lists.ny ∙ sym q.lists.ny,
  p.lists.nz ∙ sym q.lists.nz,
  p.lists.t0 ∙ sym q.lists.t0,
  p.lists.t1 ∙ sym q.lists.t1,
  p.lists.t2 ∙ sym q.lists.t2,
  p.edge_count ∙ sym q.edge_count,
  p.triangle_count ∙ sym q.triangle_count,
)

pub akf_extract_turned_mesh_determined :
    (κs : _) (a : _) (r r' : _) (s s' : _)
    → akf_extract_turned_mesh.Post κs a r s
    → akf_extract_turned_mesh.Post κs a r' s'
    → (r ≡ r')
    × (s.1.1.1.1.1.1.1.1.0.now ≡ s'.1.1.1.1.1.1.1.1.0.now)
    × (s.1.1.1.1.1.1.1.1.1.0.now ≡ s'.1.1.1.1.1.1.1.1.1.0.now)
    × (s.1.1.1.1.1.1.1.1.1.1.0.now ≡ s'.1.1.1.1.1.1.1.1.1.1.0.now)
    × (s.1.1.1.1.1.1.1.1.1.1.1.0.now ≡ s'.1.1.1.1.1.1.1.1.1.1.1.0.now)
    × (s.1.1.1.1.1.1.1.1.1.1.1.1.0.now ≡ s'.1.1.1.1.1.1.1.1.1.1.1.1.0.now)
    × (s.1.1.1.1.1.1.1.1.1.1.1.1.1.0.now ≡ s'.1.1.1.1.1.1.1.1.1.1.1.1.1.0.now)
    × (s.1.1.1.1.1.1.1.1.1.1.1.1.1.1.0.now ≡ s'.1.1.1.1.1.1.1.1.1.1.1.1.1.1.0.now)
    × (s.1.1.1.1.1.1.1.1.1.1.1.1.1.1.1.0.now ≡ s'.1.1.1.1.1.1.1.1.1.1.1.1.1.1.1.0.now)
    × (s.1.1.1.1.1.1.1.1.1.1.1.1.1.1.1.1.0.now ≡ s'.1.1.1.1.1.1.1.1.1.1.1.1.1.1.1.1.0.now)
    × (s.1.1.1.1.1.1.1.1.1.1.1.1.1.1.1.1.1.0.now ≡ s'.1.1.1.1.1.1.1.1.1.1.1.1.1.1.1.1.1.0.now)
    × (s.1.1.1.1.1.1.1.1.1.1.1.1.1.1.1.1.1.1.0.now ≡ s'.1.1.1.1.1.1.1.1.1.1.1.1.1.1.1.1.1.1.0.now)
    × (s.1.1.1.1.1.1.1.1.1.1.1.1.1.1.1.1.1.1.1.0.now ≡ s'.1.1.1.1.1.1.1.1.1.1.1.1.1.1.1.1.1.1.1.0.now)
    × (s.1.1.1.1.1.1.1.1.1.1.1.1.1.1.1.1.1.1.1.1.0.now ≡ s'.1.1.1.1.1.1.1.1.1.1.1.1.1.1.1.1.1.1.1.1.0.now)
akf_extract_turned_mesh_determined κs a r r' s s' p q = (
  p.answer ∙ sym q.answer,
  p.lists.first ∙ sym q.lists.first,
  p.lists.second ∙ sym q.lists.second,
  p.lists.px ∙ sym q.lists.px,
  p.lists.py ∙ sym q.lists.py,
  p.lists.pz ∙ sym q.lists.pz,
  p.lists.nx ∙ sym q.lists.nx,
  p.lists.ny ∙ sym q.lists.ny,
  p.lists.nz ∙ sym q.lists.nz,
  p.lists.t0 ∙ sym q.lists.t0,
  p.lists.t1 ∙ sym q.lists.t1,
  p.lists.t2 ∙ sym q.lists.t2,
  p.edge_count ∙ sym q.edge_count,
  p.triangle_count ∙ sym q.triangle_count,
)

pub akf_cell_edges_determined :
    (κs : _) (a : _) (r r' : _) (s s' : _)
    → akf_cell_edges.Post κs a r s
    → akf_cell_edges.Post κs a r' s'
    → (s.1.1.1.1.1.0.now ≡ s'.1.1.1.1.1.0.now) × (s.1.1.1.1.1.1.0.now ≡ s'.1.1.1.1.1.1.0.now)
akf_cell_edges_determined κs a r r' s s' p q = (p.0 ∙ sym q.0, p.1 ∙ sym q.1)

pub akf_surface_area_determined :
    (κs : _) (a : _) (r r' : _) (s s' : _)
    → akf_surface_area.Post κs a r s
    → akf_surface_area.Post κs a r' s'
    → (r ≡ r') × (s.1.1.1.1.1.1.1.1.0.now ≡ s'.1.1.1.1.1.1.1.1.0.now)
akf_surface_area_determined κs a r r' s s' p q = (p.0 ∙ sym q.0, p.1 ∙ sym q.1)

pub akf_bounding_box_determined :
    (κs : _) (a : _) (r r' : _) (s s' : _)
    → akf_bounding_box.Post κs a r s
    → akf_bounding_box.Post κs a r' s'
    → (r ≡ r')
    × (s.1.1.1.1.0.now ≡ s'.1.1.1.1.0.now)
    × (s.1.1.1.1.1.0.now ≡ s'.1.1.1.1.1.0.now)
    × (s.1.1.1.1.1.1.0.now ≡ s'.1.1.1.1.1.1.0.now)
    × (s.1.1.1.1.1.1.1.0.now ≡ s'.1.1.1.1.1.1.1.0.now)
    × (s.1.1.1.1.1.1.1.1.0.now ≡ s'.1.1.1.1.1.1.1.1.0.now)
    × (s.1.1.1.1.1.1.1.1.1.0.now ≡ s'.1.1.1.1.1.1.1.1.1.0.now)
akf_bounding_box_determined κs a r r' s s' p q = (
  p.0 ∙ sym q.0,
  p.1.0 ∙ sym q.1.0,
  p.1.1.0 ∙ sym q.1.1.0,
  p.1.1.1.0 ∙ sym q.1.1.1.0,
  p.1.1.1.1.0 ∙ sym q.1.1.1.1.0,
  p.1.1.1.1.1.0 ∙ sym q.1.1.1.1.1.0,
  p.1.1.1.1.1.1 ∙ sym q.1.1.1.1.1.1,
)

pub akf_mesh_stats_determined :
    (κs : _) (a : _) (r r' : _) (s s' : _)
    → akf_mesh_stats.Post κs a r s
    → akf_mesh_stats.Post κs a r' s'
    → (r ≡ r') × (s.1.1.1.1.0.now ≡ s'.1.1.1.1.0.now)
akf_mesh_stats_determined κs a r r' s s' p q = (p.0 ∙ sym q.0, p.1 ∙ sym q.1)

pub akf_export_mesh_stl_determined :
    (κs : _) (a : _) (r r' : _) (s s' : _)
    → akf_export_mesh_stl.Post κs a r s
    → akf_export_mesh_stl.Post κs a r' s'
    → (r ≡ r')
    × (s.1.1.1.1.1.1.1.1.0.now ≡ s'.1.1.1.1.1.1.1.1.0.now)
    × (s.1.1.1.1.1.1.1.1.1.0.now ≡ s'.1.1.1.1.1.1.1.1.1.0.now)
akf_export_mesh_stl_determined κs a r r' s s' p q = (p.0 ∙ sym q.0, p.1.0 ∙ sym q.1.0, p.1.1 ∙ sym q.1.1)

pub akf_import_mesh_stl_determined :
    (κs : _) (a : _) (r r' : _) (s s' : _)
    → akf_import_mesh_stl.Post κs a r s
    → akf_import_mesh_stl.Post κs a r' s'
    → (r ≡ r')
    × (s.1.0.now ≡ s'.1.0.now)
    × (s.1.1.0.now ≡ s'.1.1.0.now)
    × (s.1.1.1.0.now ≡ s'.1.1.1.0.now)
    × (s.1.1.1.1.0.now ≡ s'.1.1.1.1.0.now)
akf_import_mesh_stl_determined κs a r r' s s' p q = (
  p.0 ∙ sym q.0,
  p.1.0 ∙ sym q.1.0,
  p.1.1.0 ∙ sym q.1.1.0,
  p.1.1.1.0 ∙ sym q.1.1.1.0,
  p.1.1.1.1 ∙ sym q.1.1.1.1,
)
