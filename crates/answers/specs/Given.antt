-- What calls hand back through their pointers beside an answer's number: nothing, which is 0, unless the answer is 0.
use Rattle.std.specs.Prelude.{ℕ, Bool, cond, pos, Option, None, Result}
use Rattle.std.specs.Option.{unwrap_or}
use Rattle.std.specs.Result.{result_unwrap_or}
use Rattle.floats.specs.Floats.{zero32}
use Rattle.floats.specs.declared.Metres.{Metres}
use Rattle.refusals.specs.declared.Refusal.{Refusal}
use Rattle.ids.specs.declared.Cells.{Cells}
use Rattle.bcc_utils.specs.declared.WideCells.{WideCells}
use Rattle.tsdf_surveys.specs.declared.TsdfStats.{TsdfStats}

-- the value of an answer, and `nothing` of a refused one
abbrev pub given : {A : Type 0} → A → Result A Refusal → A
given nothing answer = result_unwrap_or answer nothing

-- the same of an answer that may be Absent
abbrev pub found : {A : Type 0} → A → Result (Option A) Refusal → A
found nothing answer = unwrap_or (given None answer) nothing

-- 1 for yes, 0 for no
abbrev pub one_if : Bool → ℕ
one_if b = cond b 1 0

-- ---- what stands for nothing
abbrev pub no_metres : Metres
no_metres = record { 0 = zero32 }

abbrev pub no_cells : Cells × Cells × Cells
no_cells = (record { 0 = 0 }, record { 0 = 0 }, record { 0 = 0 })

abbrev pub no_place : WideCells × WideCells × WideCells
no_place = (record { 0 = pos 0 }, record { 0 = pos 0 }, record { 0 = pos 0 })

abbrev pub no_stats : TsdfStats
no_stats =
    record {
      voxel_count = 0;
      surface_voxel_count = 0;
      min_distance = no_metres;
      max_distance = no_metres;
      average_weight = zero32;
    }
