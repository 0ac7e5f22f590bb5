-- What the march and questions about a marched table hand back: nothing, which is 0, unless the answer is 0.
use Rattle.std.specs.Prelude.{ℕ, List, Float}
use Rattle.floats.specs.Floats.{zero32}
use Rattle.esdf.specs.Compute.{Outcome}
use Rattle.refusals.specs.Refusals.{answer_number}
use Rattle.esdf_surveys.specs.declared.EsdfStats.{EsdfStats}
use Rattle.answers.specs.Given.{given}

-- what a march hands back: its number, what the four lists hold, how many rows there are and how many cells were taken
pub record MarchBack : Type 0 where
  pub number : ℕ
  pub keys : List ℕ
  pub distances : List Float
  pub estimates : List Float
  pub cells : List ℕ
  pub rows : ℕ
  pub takings : ℕ

abbrev pub march_back : ℕ → List ℕ → List Float → List Float → List ℕ → ℕ → ℕ → MarchBack
march_back number keys distances estimates cells rows takings =
    record {
      number = number;
      keys = keys;
      distances = distances;
      estimates = estimates;
      cells = cells;
      rows = rows;
      takings = takings;
    }

abbrev pub march_handed : Outcome → MarchBack
march_handed o =
    let counts = given (0, 0) o.answer in
    march_back (answer_number o.answer) o.keys o.distances o.estimates o.cells counts.0 counts.1

-- ---- what stands for nothing
abbrev pub no_slope : Float × Float × Float
no_slope = (zero32, zero32, zero32)

abbrev pub no_marched_stats : EsdfStats
no_marched_stats =
    record {
      voxel_count = 0;
      obstacle_voxel_count = 0;
      free_voxel_count = 0;
      min_distance = zero32;
      max_distance = zero32;
    }
