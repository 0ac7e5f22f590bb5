-- `esdf_surveys::get_voxels_within_distance` meets its contract: what is filled by the answer and cleared from its count is what the definition holds.
-- Assumes nothing.
use Rattle.marched.specs.Read.{marched_in}
use Rattle.esdf_surveys.proofs.Walking.{within_keys_lem, within_distances_lem}
use Rattle.esdf_surveys.proofs.get_voxels_within_distance.Goals as goal

pub returns : goal.returns
returns c =
    let a = c.args in
    let f = c.fill-listed.ensures in
    let k = c.fill-listed.auto in
    let n = c.count_of-n.ensures in
    record {
      value = f.answer;
      out_keys_after = within_keys_lem (marched_in a.field.now) a.threshold a.out_keys.now a.out_distances.now _ _ _ f _ k.out_keys n c.clear_from.ensures;
      out_distances_after =
          within_distances_lem (marched_in a.field.now) a.threshold a.out_keys.now a.out_distances.now _ _ _ f _ k.out_distances n c.clear_from-2.ensures;
    }
