-- Statistics of the table.
use Rattle.std.specs.Prelude.{ℕ, ◌+◌, cond, List, [], ◌∷◌, eqb, pos, Float, Ok, Err, Result}
use Rattle.std.specs.Float.{binary32}
use Rattle.std.specs.Float.Ieee.{add, div, lt, of_int}
use Rattle.ends.specs.Ends.{no_ends, widened, lowest, highest}
use Rattle.floats.specs.Floats.{zero32, size_of}
use Rattle.refusals.specs.Refusals.{answer_number}
use Rattle.table.specs.declared.Settings.{Settings}
use Rattle.table.specs.Table.{Row, Table, rows, table_check}
use Rattle.tsdf_surveys.specs.declared.Tally.{Tally}
use Rattle.tsdf_surveys.specs.declared.TsdfStats.{TsdfStats}
use Rattle.refusals.specs.declared.Refusal.{Refusal}

-- before the first row: the ends lie beyond every distance, the weights start at +0
abbrev pub no_tally : Tally
no_tally = record { near = 0; ends = no_ends; weight = zero32 }

-- a row of weight above 0: it is near the surface where |distance| is below the voxel size; a row of weight 0 counts for nothing
unfoldable pub tallied : Float → Tally → Float → Float → Tally
tallied size t d w =
    cond (lt zero32 w)
    (record {
      near = cond (lt (size_of d) size) (t.near + 1) t.near;
      ends = widened t.ends d;
      weight = add binary32 t.weight w;
    })
    t

-- the rows in order
unfoldable pub tallied_all : Float → Tally → List Row → Tally
tallied_all size t [] = t
tallied_all size t (r ∷ rs) = tallied_all size (tallied size t r.distance r.weight) rs

-- the sum of weights over the number of all rows; +0 over none
abbrev pub mean_of : Float → ℕ → Float
mean_of sum n = cond (eqb n 0) zero32 (div binary32 sum (of_int binary32 (pos n)))

-- the statistics of n rows
unfoldable pub stats_of : ℕ → Tally → TsdfStats
stats_of n t =
    record {
      voxel_count = n;
      surface_voxel_count = t.near;
      min_distance = record { 0 = lowest t.ends };
      max_distance = record { 0 = highest t.ends };
      average_weight = mean_of t.weight n;
    }

-- what the tests of the table refuse stays refused
unfoldable pub statistics_if : Result (Unit {0}) Refusal → TsdfStats → Result TsdfStats Refusal
statistics_if (Ok tt) s = Ok s
statistics_if (Err why) s = Err why

-- rows ascending, after refusals 1, 2 and 3
unfoldable pub statistics_of : Settings → Table → Result TsdfStats Refusal
unfolding statistics_if stats_of tallied_all
statistics_of s t = statistics_if (table_check s t) (stats_of t.count (tallied_all s.voxel_size.0 no_tally (rows t)))

-- document 01's number of an answer, 0 where it is no refusal
abbrev pub statistics_number : Result TsdfStats Refusal → ℕ
statistics_number answer = answer_number answer
