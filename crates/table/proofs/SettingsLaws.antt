-- Settings that passed their test, each by its name. Assumes nothing.
use mathlib.Core.Path.{◌≡◌}
use mathlib.Core.Bool.{true}
use lib.Ieee.{Float, le}
use Rattle.floats.specs.Floats.{zero32, thousand, million, between, positive_to}
use Rattle.lists.proofs.Bools.{and_first, and_second}
use Rattle.table.specs.declared.Settings.{Settings}
use Rattle.table.specs.Table.{farthest_ok, settings_ok}

-- each setting is in its range
pub record InRange (s : Settings) : Type 0 where
  pub truncation : positive_to thousand s.truncation.0 ≡ true
  pub weight : positive_to million s.max_weight ≡ true
  pub size : positive_to thousand s.voxel_size.0 ≡ true
  pub farthest : farthest_ok s.max_distance.0 ≡ true

pub settings_known : (s : Settings) → settings_ok s ≡ true → InRange s
settings_known s h =
    let w = and_second (positive_to thousand s.truncation.0) _ h in
    let z = and_second (positive_to million s.max_weight) _ w in
    record {
      truncation = and_first (positive_to thousand s.truncation.0) _ h;
      weight = and_first (positive_to million s.max_weight) _ w;
      size = and_first (positive_to thousand s.voxel_size.0) _ z;
      farthest = and_second (positive_to thousand s.voxel_size.0) _ z;
    }

-- a maximum distance is from 0 to 1,000,000
pub farthest_known : (x : Float) → farthest_ok x ≡ true → (le zero32 x ≡ true) × (le x million ≡ true)
farthest_known x h =
    let z = and_first (between zero32 million x) _ h in
    (and_first (le zero32 x) _ z, and_second (le zero32 x) _ z)
