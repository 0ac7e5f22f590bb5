-- Fusing keeps an accepted table accepted: the key is on the lattice, the distance was tested, and a weight of at least
-- 0 grown by a confidence of at least 0 and capped is in range.
-- Assumes nothing.
use Rattle.std.specs.Prelude.{Ok, Err, Some, None, Option, Result}
use mathlib.Core.Path.{◌≡◌, refl, ap}
use mathlib.Core.Bool.{Bool, true, false, cond}
use Prim.Native.Nat.{ℕ, ◌<◌, ◌≤◌}
use native.Mathlib.Omega.{arith}
use borrow.Author.Tests.{ltb-true}
use lib.ListN.{length, take, set, length-set}
use lib.Seq.{get_or-take, length-take-le}
use lib.Ieee.{Float, nan, binary32, add, odd, lt, eq, le, of_fields, of_bits}
use Rattle.floats.specs.Floats.{zero32, one32, million, between, within}
use Rattle.floats.proofs.Clamped.{smaller_between}
use Rattle.floats.proofs.Order.{lt_le}
use Rattle.floats.proofs.Sums.{sum_at_least_0}
use Rattle.ids.specs.Key.{on_lattice}
use Rattle.lists.proofs.Bools.{and_first, cases}
use Rattle.refusals.specs.declared.Refusal.TheVariants.{TooLarge}
use Rattle.table.specs.declared.Settings.{Settings}
use Rattle.search.specs.Keys.{find}
use Rattle.table.specs.Table.{row, Table, rows, put, relaid, settings_ok, table_check}
use Rattle.search.proofs.KeyLaws.{found}
use Rattle.table.proofs.RowLaws.{lengths_known}
use Rattle.table.proofs.SettingsLaws.{settings_known}
use Rattle.table.specs.Rows.{keys_of}
use Rattle.table.proofs.Laying.{distances_of, weights_of, columns, put_set}
use Rattle.table.proofs.Checking.{sound}
use Rattle.table.proofs.Putting.{rows_length}
use Rattle.table.proofs.Keeping.{put-rows_ok, put_ascends, put_length, at_ok, relaid_check}
use Rattle.measuring.specs.declared.Measured.{Measured}
use Rattle.table.specs.declared.Voxel.{Voxel}
use Rattle.measuring.specs.declared.Reading.{Reading}
use Rattle.fusing.specs.declared.Averaging.{Averaging}
use Rattle.fusing.specs.declared.Step.{Step}
use Rattle.measuring.specs.Readings.{admitted}
use Rattle.fusing.specs.Fusing.{effect, averaging_of, new_weight, voxel_at, has_place, step_at, stored, fused_voxel, fused_near, fused_if, fuse_if, effect_of, fuse}
use Rattle.measuring.proofs.Admitting.{near_known}
use Rattle.refusals.specs.declared.Refusal.{Refusal}

-- a new weight is in range
pub weight_kept :
    (how : Averaging) (w c : Float)
    → lt zero32 how.most ≡ true
    → between zero32 how.most w ≡ true
    → between zero32 one32 c ≡ true
    → between zero32 how.most (new_weight how w c) ≡ true
unfolding new_weight
weight_kept how w c p q r =
    smaller_between (add binary32 w c) how.most (sum_at_least_0 w c (and_first (le zero32 w) _ q) (and_first (le zero32 c) _ r))
    (lt_le zero32 how.most p)

-- and so is the weight of a fused voxel
pub voxel_kept :
    (how : Averaging) (old : Voxel) (m : Measured)
    → lt zero32 how.most ≡ true
    → between zero32 how.most old.weight ≡ true
    → between zero32 one32 m.confidence ≡ true
    → between zero32 how.most (fused_voxel how old m).weight ≡ true
unfolding fused_voxel
voxel_kept how old m = weight_kept how old.weight m.confidence

-- settings in range have a maximum weight above 0
pub weight_above : (s : Settings) → settings_ok s ≡ true → lt zero32 s.max_weight ≡ true
weight_above s h = and_first (lt zero32 s.max_weight) _ (settings_known s h).weight

pub zero_in : (most : Float) → lt zero32 most ≡ true → between zero32 most zero32 ≡ true
unfolding le lt eq of_bits of_fields odd
zero_in most h = rw h

module _ (s : Settings) (t : Table) (k : ℕ) (m : Measured) (e : table_check s t ≡ (Ok tt)) (on : on_lattice k ≡ true)
    (sure : between zero32 one32 m.confidence ≡ true) where
  abbrev most : Float
  most = s.max_weight

  above : lt zero32 most ≡ true
  above = weight_above s (sound s t e).settings

  fit : (t.count ≤ length t.keys) × (length t.distances ≡ length t.keys) × (length t.weights ≡ length t.keys) × (length t.keys ≤ 65536)
  fit = lengths_known (length t.keys) (length t.distances) (length t.weights) t.count (sound s t e).lengths

  cols : (keys_of (rows t) ≡ take t.count t.keys)
      × (distances_of (rows t) ≡ take t.count t.distances)
      × (weights_of (rows t) ≡ take t.count t.weights)
  cols = columns t.keys t.distances t.weights t.count fit.1 fit.2

  many : length (rows t) ≡ t.count
  many = rows_length t.keys t.distances t.weights t.count (sound s t e).lengths

  inside : (i : ℕ) → find k (take t.count t.keys) ≡ Some i → i < t.count
  inside i q = rw (length-take-le t.count t.keys fit.0) at (found k (take t.count t.keys) i q).0

  -- the old weight is in range
  old_weight : (f : Option ℕ) → find k (take t.count t.keys) ≡ f → between zero32 most (voxel_at f t).weight ≡ true
  unfolding voxel_at
  old_weight None q = zero_in most above
  old_weight (Some i) q =
      rw (← get_or-take t.count t.weights i nan (inside i q), ← cols.2) (at_ok most (rows t) i (sound s t e).ranges (rw many (inside i q)))

  -- a row that has a place does not outgrow the lists
  placed : (f : Option ℕ) (d w : Float) → find k (take t.count t.keys) ≡ f → has_place f t ≡ true → length (put (row k d w) (rows t)) ≤ length t.keys
  unfolding has_place
  placed None d w q h = omega (arith, put_length (row k d w) (rows t), many, ltb-true t.count (length t.keys) h)
  placed (Some i) d w q h =
      let p : put (row k d w) (rows t) ≡ set (rows t) i (row k d w) =
      put_set (row k d w) (rows t) i (rw cols.0 (sound s t e).order) (rw many (inside i q))
      (rw cols.0 (found k (take t.count t.keys) i q).1) in
      omega (arith, ap length p, length-set (rows t) i (row k d w), many, fit.0)

  keeps_if :
      (b : Bool) (done : Result Step Refusal) (v : Voxel)
      → (b ≡ true → length (put (row k v.distance v.weight) (rows t)) ≤ length t.keys)
      → between zero32 most v.weight ≡ true
      → table_check s (stored t k b done v).left ≡ (Ok tt)
  unfolding stored
  keeps_if false done v h w = e
  keeps_if true done v h w =
      let r = row k v.distance v.weight in
      cases (λ (x : Bool).
      table_check s
      (cond x (effect done (relaid t (put r (rows t)))) (effect (Err TooLarge) t)).left
      ≡ (Ok tt)) (within million v.distance)
      (λ x.
      relaid_check s t (put r (rows t)) e (h refl)
      (put-rows_ok most r (rows t) (rw (on, x, w)) (sound s t e).ranges)
      (put_ascends r (rows t) (rw cols.0 (sound s t e).order)))
      (λ x. e)

  -- whatever storing answers, the table passes
  stored_keeps :
      (f : Option ℕ)
      → find k (take t.count t.keys) ≡ f
      → table_check s (stored t k (has_place f t) (step_at f t k) (fused_voxel (averaging_of s) (voxel_at f t) m)).left ≡ (Ok tt)
  stored_keeps f q =
      keeps_if (has_place f t) (step_at f t k) (fused_voxel (averaging_of s) (voxel_at f t) m) (λ h. placed f _ _ q h)
      (voxel_kept (averaging_of s) (voxel_at f t) m above (old_weight f q) sure)

  near_keeps : table_check s (fused_near (averaging_of s) t k m).left ≡ (Ok tt)
  unfolding fused_near
  near_keeps = stored_keeps (find k (take t.count t.keys)) refl

-- fusing keeps the table's rules
pub fuse_keeps : (s : Settings) (t : Table) (k : ℕ) (r : Reading) → table_check s t ≡ (Ok tt) → table_check s (fuse s t k r).left ≡ (Ok tt)
unfolding fuse effect_of fuse_if fused_if
fuse_keeps s t k r e = rw e (if_keeps (admitted s k r) refl) where
  if_keeps : (a : Result (Option Measured) Refusal) → admitted s k r ≡ a → table_check s (fused_if (averaging_of s) t k a).left ≡ (Ok tt)
  if_keeps (Err why) q = e
  if_keeps (Ok None) q = e
  if_keeps (Ok (Some m)) q = let n = near_known s k r m q in near_keeps s t k m e n.0 n.1
