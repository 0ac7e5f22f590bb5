-- A part of a batch goes through own rows: what its steps keep, for private contracts.
use Rattle.std.specs.Prelude.{ℕ, suc, ◌+◌, ◌<◌, ◌≤◌, ◌≡◌, ◌⊎◌, Bool, true, false, List, ◌∷◌, length, get_or, take, drop, set, Float, Ok, Err, None, Result}
use Rattle.std.specs.Float.{nan}
use Rattle.refusals.specs.declared.Refusal.{Refusal}
use Rattle.floats.specs.Floats.{zero32, million, within}
use Rattle.gathering.specs.Gathering.{standing, puts}
use Rattle.refusals.specs.declared.Refusal.TheVariants.{TooLarge}
use Rattle.table.specs.declared.Settings.{Settings}
use Rattle.search.specs.Keys.{find, ascending}
use Rattle.table.specs.Table.{Table, rows_of, rows, lengths_ok, table_check, relaid}
use Rattle.fusing.specs.declared.Averaging.{Averaging}
use Rattle.table.specs.declared.Voxel.{Voxel}
use Rattle.measuring.specs.declared.Measured.{Measured}
use Rattle.owning.specs.declared.Owned.{Owned}
use Rattle.owning.specs.declared.Run.{Run}
use Rattle.owning.specs.declared.Ran.{Ran}
use Rattle.batching.specs.declared.RefusedReading.{RefusedReading}
use Rattle.fusing.specs.Fusing.{fused_voxel}
use Rattle.sorting.specs.Sorting.{Numbered}
use Rattle.batching.specs.Batches.{refused_reading, batch_end, Entry, batch_from}
use Rattle.batching.specs.Steps.{far_up_to}

-- the table with the own rows that stand
abbrev pub over : Settings → Table → List ℕ → List Float → List Float → ℕ → Table
over s t ks ds ws own = relaid t (puts s.max_weight (rows_of ks ds ws own) (rows t))

-- own rows of ascending keys beside a table that passes: with them it passes too and has so many rows more, and those that wait are not in it
pub record Ready (s : Settings) (t : Table) (ks : List ℕ) (ds ws : List Float) (own added : ℕ) : Type 0 where
  pub passed : table_check s t ≡ (Ok tt)
  pub again : table_check s (over s t ks ds ws own) ≡ (Ok tt)
  pub lengths : lengths_ok (length ks) (length ds) (length ws) own ≡ true
  pub order : ascending (take own ks) ≡ true
  pub waits : (q : ℕ) → q < own → standing s.max_weight (get_or ws q nan) ≡ false → find (get_or ks q 0) (take t.count t.keys) ≡ None
  pub many : length (puts s.max_weight (rows_of ks ds ws own) (rows t)) ≡ t.count + added
  pub fits : t.count + added ≤ length t.keys

-- the slot of each reading from `from` up to `to` is the number of its key among the own keys, counted from 1
abbrev pub OwnSlots : List ℕ → ℕ → ℕ → List ℕ → List ℕ → Type 0
OwnSlots keys from to own slots = (i : ℕ) → from + i < to → Numbered own (get_or keys (from + i) 0) (get_or slots i 0)

-- the voxel of a row that stands; one that waits starts with (0, 0)
unfoldable pub old_voxel : Bool → Float → Float → Voxel
old_voxel true d w = record { distance = d; weight = w }
old_voxel false d w = record { distance = zero32; weight = zero32 }

-- the own row at p after a reading
abbrev pub voxel_after : Averaging → List Float → List Float → ℕ → Measured → Voxel
voxel_after how ds ws p m =
    fused_voxel how (old_voxel (standing how.most (get_or ws p nan)) (get_or ds p nan) (get_or ws p nan)) m

-- the own rows with it
abbrev pub Rewritten : Averaging → List Float → List Float → ℕ → Measured → List Float → List Float → Type 0
Rewritten how ds ws p m ds' ws' =
    (within million (voxel_after how ds ws p m).distance ≡ true)
    × (ds' ≡ set ds p (voxel_after how ds ws p m).distance)
    × (ws' ≡ set ws p (voxel_after how ds ws p m).weight)

-- what a near reading of the row at p leaves
unfoldable pub Placed : Averaging → List Float → List Float → ℕ → Bool → Measured → Result Owned Refusal → List Float → List Float → Type 0
Placed how ds ws p spare m (Ok Owned.Far) ds' ws' = ⊥
Placed how ds ws p spare m (Ok Owned.Changed) ds' ws' = (standing how.most (get_or ws p nan) ≡ true) × Rewritten how ds ws p m ds' ws'
Placed how ds ws p spare m (Ok Owned.Added) ds' ws' =
    (standing how.most (get_or ws p nan) ≡ false) × (spare ≡ true) × Rewritten how ds ws p m ds' ws'
Placed how ds ws p spare m (Ok Owned.Unknown) ds' ws' = (ds' ≡ ds) × (ws' ≡ ws)
Placed how ds ws p spare m (Err why) ds' ws' =
    (ds' ≡ ds) × (ws' ≡ ws) × (why ≡ TooLarge) × (within million (voxel_after how ds ws p m).distance ≡ false)
    × ((standing how.most (get_or ws p nan) ≡ true) ⊎ (spare ≡ true))

-- a batch goes on with the own rows that a reading left and so many rows added
abbrev pub GoesOn : Settings → Table → List ℕ → List Float → List Float → ℕ → Entry → List Float → List Float → ℕ → Type 0
GoesOn s t ks ds ws own r ds' ws' added =
    ((i : ℕ) (rs : List Entry) → batch_from s i (over s t ks ds ws own) (r ∷ rs) ≡ batch_from s (suc i) (over s t ks ds' ws' own) rs)
    × Ready s t ks ds' ws' own added

-- a batch goes on, ends there, or the reading is left to others
unfoldable pub StepLeft : Settings → Table → List ℕ → List Float → List Float → ℕ → ℕ → Entry → Result Owned Refusal → List Float → List Float → Type 0
StepLeft s t ks ds ws own added r (Ok Owned.Far) ds' ws' = GoesOn s t ks ds ws own r ds' ws' added
StepLeft s t ks ds ws own added r (Ok Owned.Changed) ds' ws' = GoesOn s t ks ds ws own r ds' ws' added
StepLeft s t ks ds ws own added r (Ok Owned.Added) ds' ws' = GoesOn s t ks ds ws own r ds' ws' (suc added)
StepLeft s t ks ds ws own added r (Ok Owned.Unknown) ds' ws' = (ds' ≡ ds) × (ws' ≡ ws)
StepLeft s t ks ds ws own added r (Err why) ds' ws' =
    ((i : ℕ) (rs : List Entry) → batch_from s i (over s t ks ds ws own) (r ∷ rs) ≡ batch_end (Err (refused_reading why i)) (over s t ks ds ws own))
    × (ds' ≡ ds) × (ws' ≡ ws)

-- the same beside every table
abbrev pub Stepped : Settings → List ℕ → List Float → List Float → ℕ → Bool → Entry → Result Owned Refusal → List Float → List Float → Type 0
Stepped s ks ds ws own spare r step ds' ws' =
    (t :
    Table) (added : ℕ) → Ready s t ks ds ws own added → (spare ≡ true
    → t.count + added < length t.keys) → StepLeft s t ks ds ws own added r step ds' ws'

-- a reading is passed over as far
unfoldable pub passed_far : Result Owned Refusal → Bool
passed_far (Ok Owned.Far) = true
passed_far (Ok Owned.Added) = false
passed_far (Ok Owned.Changed) = false
passed_far (Ok Owned.Unknown) = false
passed_far (Err why) = false

-- where a part of a batch leaves off, at the least-th reading or later, it goes on with the table that is left; or it ends there
unfoldable pub RunLeft : Settings → Table → List Entry → ℕ → ℕ → Result ℕ RefusedReading → Table → Type 0
RunLeft s t rs from least (Ok i) u =
    (batch_from s from t (drop from rs) ≡ batch_from s i u (drop i rs)) × (least ≤ i) × (i ≤ length rs)
RunLeft s t rs from least (Err refused) u = batch_from s from t (drop from rs) ≡ batch_end (Err refused) u

-- the reading where it leaves off
abbrev pub left_off : Result ℕ RefusedReading → ℕ
left_off (Ok i) = i
left_off (Err refused) = refused.at

-- of the readings before that one, so many more are far than of those before the from-th
abbrev pub RunFar : Settings → List Entry → ℕ → Run → Type 0
RunFar s rs from run = far_up_to s rs (left_off run.end) ≡ far_up_to s rs from + run.far

-- a part of a batch through own rows, beside every table
abbrev pub RanOver : Settings → List ℕ → List Float → List Float → ℕ → ℕ → List Entry → ℕ → Ran → List Float → List Float → Type 0
RanOver s ks ds ws own room rs from ran ds' ws' =
    (t : Table) → Ready s t ks ds ws own 0 → t.count + room ≤ length t.keys
    → RunLeft s (over s t ks ds ws own) rs from from ran.run.end (over s t ks ds' ws' own) × Ready s t ks ds' ws' own ran.added

-- the same, and its far readings
abbrev pub RanTo : Settings → List ℕ → List Float → List Float → ℕ → ℕ → List Entry → ℕ → Ran → List Float → List Float → Type 0
RanTo s ks ds ws own room rs from ran ds' ws' = RanOver s ks ds ws own room rs from ran ds' ws' × RunFar s rs from ran.run

-- a part of a batch, the table that it leaves, and its far readings
abbrev pub RunTo : Settings → Table → List Entry → ℕ → ℕ → Run → Table → Type 0
RunTo s t rs from least run u = RunLeft s t rs from least run.end u × (table_check s u ≡ (Ok tt)) × RunFar s rs from run
