-- Statistics of a marched table.
use Rattle.std.specs.Prelude.{ℕ, ◌+◌, cond, List, [], ◌∷◌, length, Float, Ok, Err, Result}
use Rattle.std.specs.Float.Ieee.{lt}
use Rattle.ends.specs.Ends.{no_ends, widened, lowest, highest}
use Rattle.floats.specs.Floats.{zero32}
use Rattle.refusals.specs.Refusals.{number_of}
use Rattle.marching.specs.March.{MarchedRow}
use Rattle.marched.specs.Marched.{MarchedTable, marched_rows, marched_check, once_passed}
use Rattle.esdf_surveys.specs.declared.Tally.{Tally}
use Rattle.esdf_surveys.specs.declared.EsdfStats.{EsdfStats}
use Rattle.refusals.specs.declared.Refusal.{Refusal}

-- before the first row: the ends lie beyond every distance
abbrev pub no_tally : Tally
no_tally = record { obstacles = 0; free = 0; ends = no_ends }

-- one distance more: an obstacle is below zero, anything else is free, zero too
unfoldable pub tallied : Tally → Float → Tally
tallied t d =
    record {
      obstacles = cond (lt d zero32) (t.obstacles + 1) t.obstacles;
      free = cond (lt d zero32) t.free (t.free + 1);
      ends = widened t.ends d;
    }

unfoldable pub tallied_all : Tally → List MarchedRow → Tally
tallied_all t [] = t
tallied_all t (r ∷ rs) = tallied_all (tallied t r.distance) rs

unfoldable pub stats_of : ℕ → Tally → EsdfStats
stats_of n t =
    record {
      voxel_count = n;
      obstacle_voxel_count = t.obstacles;
      free_voxel_count = t.free;
      min_distance = lowest t.ends;
      max_distance = highest t.ends;
    }

abbrev pub get_stats : MarchedTable → Result EsdfStats Refusal
get_stats t = once_passed (marched_check t) (stats_of (length (marched_rows t)) (tallied_all no_tally (marched_rows t)))

-- document 01's number of an answer, 0 where it is no refusal
abbrev pub statistics_number : Result EsdfStats Refusal → ℕ
statistics_number (Ok s) = 0
statistics_number (Err why) = number_of why
