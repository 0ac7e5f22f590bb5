-- What storing a fused voxel leaves, said of the three lists: each case of the definition is one rewriting by the tests that led there.
-- Assumes nothing.
use Rattle.std.specs.Prelude.{Ok, Err, Some, None}
use mathlib.Core.Path.{◌≡◌, ◌∙◌}
use mathlib.Core.Bool.{true, false}
use mathlib.Core.List.{List}
use Prim.Native.Nat.{ℕ, ◌+◌, ◌<◌, ◌≤◌}
use borrow.Author.Tests.{lt-ltb, le-ltb}
use lib.ListN.{length, get_or, take, set}
use lib.Ieee.{Float, nan}
use Rattle.floats.specs.Floats.{zero32, million, within}
use Rattle.lists.specs.Places.{inserted}
use Rattle.refusals.specs.declared.Refusal.TheVariants.{NoPlace, TooLarge}
use Rattle.search.specs.Keys.{find, ascending, halved}
use Rattle.table.specs.Table.{table, lengths_ok}
use Rattle.search.proofs.KeyLaws.{halved_place}
use Rattle.table.proofs.Putting.{relaid_set, relaid_open}
use Rattle.fusing.specs.declared.Averaging.{Averaging}
use Rattle.table.specs.declared.Voxel.{Voxel}
use Rattle.measuring.specs.declared.Measured.{Measured}
use Rattle.fusing.specs.Fusing.{Effect, effect, fused_voxel, voxel_at, has_place, step_at, stored, fused_near}
use Rattle.fusing.specs.declared.Step.{Step}

module _ (how : Averaging) (k : ℕ) (m : Measured) (ks : List ℕ) (ds ws : List Float) (n : ℕ) where
  abbrev whole : Effect
  whole = fused_near how (table ks ds ws n) k m

  -- a stored key: its voxel is changed, or the new distance is out of range
  module _ (i : ℕ) (e : find k (take n ks) ≡ Some i) (v : Voxel) (q : v ≡ fused_voxel how (record { distance = get_or ds i nan; weight = get_or ws i nan }) m) where
    pub too_large : within million v.distance ≡ false → effect (Err TooLarge) (table ks ds ws n) ≡ whole
    unfolding fused_near stored has_place step_at voxel_at
    too_large h = rw (e, ← q, h)

    pub changed :
        within million v.distance ≡ true
        → lengths_ok (length ks) (length ds) (length ws) n ≡ true
        → ascending (take n ks) ≡ true
        → effect (Ok (Step.Changed i)) (table ks (set ds i v.distance) (set ws i v.weight) n) ≡ whole
    unfolding fused_near stored has_place step_at voxel_at
    changed h known a = rw (e, ← q, h, relaid_set ks ds ws n known a k i v.distance v.weight e)

  -- a new key: it has no place, its distance is out of range, or it gets a row
  module _ (e : find k (take n ks) ≡ None) where
    pub no_place : length ks ≤ n → effect (Err NoPlace) (table ks ds ws n) ≡ whole
    unfolding fused_near stored has_place step_at voxel_at
    no_place g = rw (e, le-ltb n (length ks) g)

    module _ (g : n < length ks) (v : Voxel) (q : v ≡ fused_voxel how (record { distance = zero32; weight = zero32 }) m) where
      pub too_large_new : within million v.distance ≡ false → effect (Err TooLarge) (table ks ds ws n) ≡ whole
      unfolding fused_near stored has_place step_at voxel_at
      too_large_new h = rw (e, lt-ltb n (length ks) g, ← q, h)

      pub added :
          within million v.distance ≡ true
          → lengths_ok (length ks) (length ds) (length ws) n ≡ true
          → ascending (take n ks) ≡ true
          → (p : ℕ)
          → p ≡ halved k (take n ks)
          → (ks' : List ℕ) (ds' ws' : List Float)
          → ks' ≡ inserted ks n p k
          → ds' ≡ inserted ds n p v.distance
          → ws' ≡ inserted ws n p v.weight
          → effect (Ok (Step.Added p)) (table ks' ds' ws' (n + 1)) ≡ whole
      unfolding fused_near stored has_place step_at voxel_at
      added h known a p o ks' ds' ws' x y z =
          let placed = o ∙ halved_place k (take n ks) a in
          rw (e, lt-ltb n (length ks) g, ← q, h, ← placed, relaid_open ks ds ws n known k v.distance v.weight e g p placed, x, y, z)
