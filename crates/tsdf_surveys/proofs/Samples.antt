-- Three rows, of weights 1, 2 and 0: what each question answers, its refusals, and the statistics of them and of the empty table. By computation.
-- Assumes nothing.
use Rattle.std.specs.Prelude.{Ok, Err, Some, None, Option, Result, Bool}
use Prim.Native.Nat.{ℕ}
use mathlib.Core.Path.{◌≡◌, refl}
use mathlib.Core.Bool.{cond}
use mathlib.Core.List.{List, [], ◌∷◌}
use lib.Count.{count_trailing_zeros}
use lib.Ieee.{binary32, span, climb, size, odd, units, round, neg, sum, add, div, lt, eq, le, of_fields, of_bits, to_bits, of_int}
use Rattle.lists.specs.Beside.{beside_by}
use Rattle.floats.specs.Floats.{f32}
use Rattle.ids.specs.Key.{same_parity}
use Rattle.ids.specs.Morton.{respaced}
use Rattle.lists.specs.Lists.{kept}
use Rattle.table.specs.declared.Settings.{Settings}
use Rattle.search.specs.Keys.{rises_from, ascending, next, find}
use Rattle.table.specs.Table.{Table, table, settings_of, rows, rows_ok, need, check_with}
use Rattle.tsdf_questions.specs.Lookups.{row_at, row_if, row_of, looked_if, looked_up, distance_of, surface_if, surface_of, distance_number, surface_number}
use Rattle.tsdf_surveys.specs.Surface.{surface_keys}
use Rattle.tsdf_surveys.specs.Statistics.{tallied, tallied_all, stats_of, statistics_if, statistics_of}
use Rattle.refusals.specs.declared.Refusal.{Refusal}
use Rattle.floats.specs.declared.Metres.{Metres}
use Rattle.tsdf_surveys.specs.declared.TsdfStats.{TsdfStats}

-- truncation 1, maximum weight 100, size 1
abbrev pub settings : Settings
settings = settings_of (f32 0x3F80_0000) (f32 0x42C8_0000) (f32 0x3F80_0000) (f32 0)

-- 0.25 at weight 1, -0.5 at weight 2, 0.125 at weight 0, and a free place
abbrev pub three : Table
three =
    table (7 ∷ 8 ∷ 15 ∷ 0 ∷ []) (f32 0x3E80_0000 ∷ f32 0xBF00_0000 ∷ f32 0x3E00_0000 ∷ f32 0 ∷ []) (f32 0x3F80_0000 ∷ f32 0x4000_0000 ∷ f32 0 ∷ f32 0 ∷ []) 3

-- the distance's bits, or the answer's number
unfoldable pub distance_bits : Result (Option Metres) Refusal → ℕ
distance_bits (Ok (Some d)) = to_bits binary32 d.0
distance_bits (Ok None) = 101
distance_bits (Err why) = distance_number (Err why)

-- 1 for yes, 0 for no, or the refusal's number
unfoldable pub surface_bit : Result Bool Refusal → ℕ
surface_bit (Ok near) = cond near 1 0
surface_bit (Err why) = surface_number (Err why)

-- all numbers of the statistics, floats as bits
unfoldable pub numbers : Result TsdfStats Refusal → List ℕ
numbers (Ok s) =
    s.voxel_count ∷ s.surface_voxel_count ∷ to_bits binary32 s.min_distance.0
    ∷ to_bits binary32 s.max_distance.0 ∷ to_bits binary32 s.average_weight ∷ []
numbers (Err why) = []

abbrev pub asked : List (List ℕ)
asked =
    (distance_bits (distance_of (looked_up settings three 8)) ∷ distance_bits (distance_of (looked_up settings three 16))
    ∷ distance_bits (distance_of (looked_up settings three 9)) ∷ [])
    ∷ (surface_bit (surface_of (f32 0x3F00_0000) (looked_up settings three 7))
    ∷ surface_bit (surface_of (f32 0x3F00_0000) (looked_up settings three 8))
    ∷ surface_bit (surface_of (f32 0x7F80_0000) (looked_up settings three 16)) ∷ [])
    ∷ surface_keys (f32 0x3F80_0000) (rows three)
    ∷ numbers (statistics_of settings three)
    ∷ numbers (statistics_of settings (table [] [] [] 0))
    ∷ []

pub samples_hold : asked ≡
    (0xBF00_0000 ∷ 101 ∷ 4 ∷ [])
    ∷ (1 ∷ 0 ∷ 5 ∷ [])
    ∷ (7 ∷ 8 ∷ [])
    ∷ (3 ∷ 2 ∷ 0xBF00_0000 ∷ 0x3E80_0000 ∷ 0x3F80_0000 ∷ [])
    ∷ (0 ∷ 0 ∷ 0 ∷ 0 ∷ 0 ∷ [])
    ∷ []
unfolding count_trailing_zeros span climb size odd units round neg sum add div lt eq le of_fields of_bits to_bits of_int same_parity
    respaced kept rises_from ascending next find beside_by rows_ok need check_with row_at row_if row_of looked_if looked_up
    surface_if surface_of surface_keys tallied tallied_all stats_of statistics_if statistics_of distance_bits surface_bit numbers
samples_hold = refl
