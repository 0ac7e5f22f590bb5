-- One distance more, by what is counted. Assumes nothing.
use mathlib.Core.Path.{◌≡◌, refl}
use mathlib.Core.Bool.{Bool, true, false, cond, not}
use Prim.Native.Nat.{ℕ, ◌+◌}
use native.Mathlib.Omega.{arith}
use mir.Val.{bool_byte}
use lib.Ieee.{Float, neg, lt}
use Rattle.ends.specs.Ends.{widened, unless_start}
use Rattle.floats.specs.Floats.{zero32, largest}
use Rattle.esdf_surveys.specs.declared.Tally.{Tally}
use Rattle.esdf_surveys.specs.declared.EsdfStats.{EsdfStats}
use Rattle.esdf_surveys.specs.Statistics.{tallied, stats_of}

-- one more where it counts
counted : (n : ℕ) (b : Bool) → n + bool_byte b ≡ cond b (n + 1) n
counted n true = refl
counted n false = omega arith

counted_not : (n : ℕ) (b : Bool) → n + bool_byte (not b) ≡ cond b n (n + 1)
counted_not n true = omega arith
counted_not n false = refl

pub tally_more :
    (t : Tally) (d : Float)
    → ◌≡◌ {A = Tally}
    (record {
      obstacles = t.obstacles + bool_byte (lt d zero32);
      free = t.free + bool_byte (not (lt d zero32));
      ends = widened t.ends d;
    })
    (tallied t d)
unfolding tallied
tally_more t d = rw (counted t.obstacles (lt d zero32), counted_not t.free (lt d zero32))

-- the statistics, by their two ends
pub stats_of_lem :
    (n : ℕ) (t : Tally) (low high : Float)
    → low ≡ unless_start largest t.ends.low
    → high ≡ unless_start (neg largest) t.ends.high
    → ◌≡◌ {A = EsdfStats}
    (record {
      voxel_count = n;
      obstacle_voxel_count = t.obstacles;
      free_voxel_count = t.free;
      min_distance = low;
      max_distance = high;
    })
    (stats_of n t)
unfolding stats_of
stats_of_lem n t low high p q = rw (p, q)
