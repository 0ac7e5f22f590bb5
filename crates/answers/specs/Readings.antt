-- The readings that a host's numbers stand for, and what fusing hands back.
use Rattle.std.specs.Prelude.{ℕ, Float}
use Rattle.table.specs.Table.{Table}
use Rattle.fusing.specs.Fusing.{Outcome, fused_number}
use Rattle.batching.specs.declared.Counts.{Counts}
use Rattle.batching.specs.Batches.{BatchOutcome, batched_number, batched_counts, batched_at}
use Rattle.measuring.specs.declared.Reading.{Reading}
use Rattle.measuring.specs.declared.Reading.TheVariants.{Direct, Ray}

-- a direct reading
abbrev pub direct_reading : Float → Float → Reading
direct_reading distance confidence = Direct (record { 0 = distance }) confidence

-- a ray from a sensor's place
abbrev pub ray_reading : Float → Float → Float → Float → Float → Reading
ray_reading x y z depth confidence =
    Ray (record { 0 = x }) (record { 0 = y }) (record { 0 = z }) (record { 0 = depth }) confidence

-- what a reading hands back: its number, and the table as it is left
pub record FuseBack : Type 0 where
  pub number : ℕ
  pub left : Table

abbrev pub fuse_back : ℕ → Table → FuseBack
fuse_back number left = record { number = number; left = left }

abbrev pub fuse_handed : Outcome → FuseBack
fuse_handed o = fuse_back (fused_number o.answer) o.left

-- what a batch hands back: the same, the counts of its readings, and the one that a refusal names
pub record BatchBack : Type 0 where
  pub number : ℕ
  pub left : Table
  pub counts : Counts
  pub at : ℕ

abbrev pub batch_back : ℕ → Table → Counts → ℕ → BatchBack
batch_back number left counts at = record { number = number; left = left; counts = counts; at = at }

abbrev pub batch_handed : BatchOutcome → BatchBack
batch_handed o = batch_back (batched_number o.answer) o.left (batched_counts o.answer) (batched_at o.answer)
