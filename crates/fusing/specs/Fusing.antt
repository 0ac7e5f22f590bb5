-- Fusing one reading into the table.
use Rattle.std.specs.Prelude.{ℕ, Bool, true, false, cond, length, get_or, take, ltb, Float, Ok, Err, Some, None, Option, Result}
use Rattle.std.specs.Float.{nan, binary32}
use Rattle.std.specs.Float.Ieee.{add, mul, div, lt}
use Rattle.floats.specs.Floats.{zero32, million, within, smaller_of}
use Rattle.refusals.specs.declared.Refusal.TheVariants.{NoPlace, TooLarge}
use Rattle.refusals.specs.Refusals.{number_of}
use Rattle.table.specs.declared.Settings.{Settings}
use Rattle.search.specs.Keys.{member, find, place_of}
use Rattle.table.specs.Table.{row, Table, rows, table_check, put, relaid}
use Rattle.fusing.specs.declared.Averaging.{Averaging}
use Rattle.table.specs.declared.Voxel.{Voxel}
use Rattle.fusing.specs.declared.Step.{Step}
use Rattle.measuring.specs.declared.Reading.{Reading}
use Rattle.measuring.specs.declared.Measured.{Measured}
use Rattle.fusing.specs.declared.Fused.{Fused}
use Rattle.measuring.specs.Readings.{admitted}
use Rattle.refusals.specs.declared.Refusal.{Refusal}

-- what a fuse answers, and the table that it leaves
pub record Outcome : Type 0 where
  pub answer : Result Fused Refusal
  pub left : Table

abbrev pub outcome : Result Fused Refusal → Table → Outcome
outcome a t = record { answer = a; left = t }

-- what a reading does, and the table that it leaves
pub record Effect : Type 0 where
  pub step : Result Step Refusal
  pub left : Table

abbrev pub effect : Result Step Refusal → Table → Effect
effect step t = record { step = step; left = t }

-- how readings are averaged: a row weighs at most the maximum weight
abbrev pub averaging_of : Settings → Averaging
averaging_of s = record { most = s.max_weight }

-- the weight grows by the confidence up to the maximum
unfoldable pub new_weight : Averaging → Float → Float → Float
new_weight how weight confidence = smaller_of (add binary32 weight confidence) how.most

-- the averaging rule: where the old weight is above 0 the distance is the mean by weights, over the new weight, and
-- otherwise the reading's
unfoldable pub fused_voxel : Averaging → Voxel → Measured → Voxel
unfolding new_weight
fused_voxel how old m =
    let w = new_weight how old.weight m.confidence in
    let sum = add binary32 (mul binary32 old.distance old.weight) (mul binary32 m.distance m.confidence) in
    record { distance = cond (lt zero32 old.weight) (div binary32 sum w) m.distance; weight = w }

-- the voxel at a found place, which is never past the lists; a new key starts with (0, 0)
unfoldable pub voxel_at : Option ℕ → Table → Voxel
voxel_at (Some i) t = record { distance = get_or t.distances i nan; weight = get_or t.weights i nan }
voxel_at None t = record { distance = zero32; weight = zero32 }

-- a stored key has its place; a new one needs a free one
unfoldable pub has_place : Option ℕ → Table → Bool
has_place (Some i) t = true
has_place None t = ltb t.count (length t.keys)

-- a stored key's row is changed at its place; a new one is added at the place that its key takes
unfoldable pub step_at : Option ℕ → Table → ℕ → Result Step Refusal
step_at (Some i) t k = Ok (Step.Changed i)
step_at None t k = Ok (Step.Added (place_of k (take t.count t.keys)))

-- the voxel v is k's: refusals 6 and 7, or the step done and the table with k's row
unfoldable pub stored : Table → ℕ → Bool → Result Step Refusal → Voxel → Effect
stored t k false done v = effect (Err NoPlace) t
stored t k true done v =
    cond (within million v.distance)
    (effect done (relaid t (put (row k v.distance v.weight) (rows t))))
    (effect (Err TooLarge) t)

-- a reading that is not far, fused into k's voxel
unfoldable pub fused_near : Averaging → Table → ℕ → Measured → Effect
unfolding stored
fused_near how t k m =
    let f = find k (take t.count t.keys) in
    stored t k (has_place f t) (step_at f t k) (fused_voxel how (voxel_at f t) m)

-- what the tests of the reading refuse stays refused, and Far is Far
unfoldable pub fused_if : Averaging → Table → ℕ → Result (Option Measured) Refusal → Effect
unfolding fused_near
fused_if how t k (Err why) = effect (Err why) t
fused_if how t k (Ok None) = effect (Ok Step.Far) t
fused_if how t k (Ok (Some m)) = fused_near how t k m

-- what the tests of the table refuse stays refused
unfoldable pub fuse_if : Result (Unit {0}) Refusal → Settings → Table → ℕ → Reading → Effect
unfolding fused_if admitted
fuse_if (Err why) s t k r = effect (Err why) t
fuse_if (Ok tt) s t k r = fused_if (averaging_of s) t k (admitted s k r)

-- one reading: refusals 1, 2 and 3, then 4 and 5, Far, 6 and 7; only a reading that is stored changes the table
unfoldable pub effect_of : Settings → Table → ℕ → Reading → Effect
unfolding fuse_if
effect_of s t k r = fuse_if (table_check s t) s t k r

-- a row of the table has the key k
abbrev pub stored_key : ℕ → Table → Bool
stored_key k t = member k (take t.count t.keys)

-- a row that was added is answered New, and one that was stored Changed, even if its bits come out the same
abbrev pub kind_of : Step → Fused
kind_of (Step.Added i) = Fused.New
kind_of (Step.Changed i) = Fused.Changed
kind_of Step.Far = Fused.Far

-- and a refusal stays a refusal
abbrev pub fused_of : Result Step Refusal → Result Fused Refusal
fused_of (Ok step) = Ok (kind_of step)
fused_of (Err why) = Err why

abbrev pub answered : Effect → Outcome
answered e = outcome (fused_of e.step) e.left

-- what is answered to one reading, and the table that it leaves
unfoldable pub fuse : Settings → Table → ℕ → Reading → Outcome
unfolding effect_of
fuse s t k r = answered (effect_of s t k r)

-- the number of an answer: 102 for New, 103 for Changed, 100 for Far, and document 01's for a refusal
abbrev pub fused_number : Result Fused Refusal → ℕ
fused_number (Ok Fused.New) = 102
fused_number (Ok Fused.Changed) = 103
fused_number (Ok Fused.Far) = 100
fused_number (Err why) = number_of why
