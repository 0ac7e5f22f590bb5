-- What each answer tells of the table: New that the key was not stored, and there is a row more; Changed that it was, and there are as many rows;
-- a far or refused reading leaves the table as it stood, its count and every place with it.
-- Assumes nothing.
use Rattle.std.specs.Prelude.{Ok, Err, Some, None, Option, Result}
use mathlib.Core.Path.{◌≡◌, refl, ap, subst, ◌∙◌}
use mathlib.Core.Logic.{◌⊎◌, inl, inr}
use mathlib.Core.Bool.{Bool, true, false, cond}
use Prim.Native.Nat.{ℕ, suc}
use native.Mathlib.Numerals.{add-one}
use borrow.Author.Tests.{ltb-true}
use lib.ListN.{length, take}
use Rattle.floats.specs.Floats.{million, within}
use Rattle.lists.proofs.Bools.{cases}
use Rattle.refusals.specs.declared.Refusal.{Refusal}
use Rattle.refusals.specs.declared.Refusal.TheVariants.{TooLarge}
use Rattle.table.specs.declared.Settings.{Settings}
use Rattle.search.specs.Keys.{find}
use Rattle.search.proofs.KeyLaws.{found_member, absent_member}
use Rattle.table.specs.Table.{row, Table, rows, put, relaid, table_check}
use Rattle.table.proofs.Checking.{sound}
use Rattle.table.proofs.Putting.{relaid_set, relaid_open}
use Rattle.table.specs.declared.Voxel.{Voxel}
use Rattle.measuring.specs.declared.Reading.{Reading}
use Rattle.fusing.specs.declared.Fused.{Fused}
use Rattle.measuring.specs.Readings.{admitted}
use Rattle.fusing.specs.Steps.{says_far, answers_far}
use Rattle.fusing.specs.Fusing.{Outcome, outcome, effect, averaging_of, fused_voxel, voxel_at, has_place, step_at, stored, fused_near, fused_if, fuse_if, effect_of, stored_key, fused_of, answered, fuse}
use Rattle.measuring.specs.declared.Measured.{Measured}

-- a voxel in range is answered by its step, New or Changed
pub stored_answers :
    (t : Table) (k : ℕ) (f : Option ℕ) (v : Voxel)
    → answered (stored t k true (step_at f t k) v)
    ≡ cond (within million v.distance) (outcome (fused_of (step_at f t k)) (relaid t (put (row k v.distance v.weight) (rows t))))
    (outcome (Err TooLarge) t)
unfolding stored
stored_answers t k f v =
    cases (λ (x : Bool).
    answered (cond x (effect (step_at f t k) (relaid t (put (row k v.distance v.weight) (rows t)))) (effect (Err TooLarge) t))
    ≡ cond x (outcome (fused_of (step_at f t k)) (relaid t (put (row k v.distance v.weight) (rows t)))) (outcome (Err TooLarge) t))
    (within million v.distance)
    (λ e. refl)
    (λ e. refl)

-- what an answer about k says of the table t that was, and of u that is left
unfoldable pub Tells : Table → ℕ → Result Fused Refusal → Table → Type 0
Tells t k (Ok Fused.New) u = (stored_key k t ≡ false) × (u.count ≡ suc t.count)
Tells t k (Ok Fused.Changed) u = (stored_key k t ≡ true) × (u.count ≡ t.count)
Tells t k (Ok Fused.Far) u = u ≡ t
Tells t k (Err why) u = u ≡ t

abbrev told : Table → ℕ → Outcome → Type 0
told t k o = Tells t k o.answer o.left

module _ (s : Settings) (t : Table) (k : ℕ) (passed : table_check s t ≡ (Ok tt)) where
  -- a row that is put: a new one, or one in the place of another
  put_tells :
      (f : Option ℕ) (v : Voxel)
      → find k (take t.count t.keys) ≡ f
      → has_place f t ≡ true
      → told t k (outcome (fused_of (step_at f t k)) (relaid t (put (row k v.distance v.weight) (rows t))))
  unfolding Tells step_at has_place
  put_tells (Some i) v e h = (
    found_member k (take t.count t.keys) i e,
    ap (λ (u : Table). u.count)
        (relaid_set t.keys t.distances t.weights t.count (sound s t passed).lengths (sound s t passed).order k i
        v.distance v.weight e),
  )
  put_tells None v e h = (
    absent_member k (take t.count t.keys) e,
    ap (λ (u : Table). u.count)
        (relaid_open t.keys t.distances t.weights t.count (sound s t passed).lengths k v.distance v.weight e
        (ltb-true t.count (length t.keys) h) _ refl)
        ∙ add-one t.count,
  )

  stored_tells :
      (f : Option ℕ) (v : Voxel)
      → find k (take t.count t.keys) ≡ f
      → (b : Bool)
      → has_place f t ≡ b
      → told t k (answered (stored t k b (step_at f t k) v))
  unfolding Tells stored
  stored_tells f v e false h = refl
  stored_tells f v e true h =
      cases (λ (x : Bool).
      told t k (answered (cond x (effect (step_at f t k) (relaid t (put (row k v.distance v.weight) (rows t)))) (effect (Err TooLarge) t))))
      (within million v.distance)
      (λ x. put_tells f v e h)
      (λ x. refl)

-- every answer is true
pub fuse_tells : (s : Settings) (t : Table) (k : ℕ) (r : Reading) → Tells t k (fuse s t k r).answer (fuse s t k r).left
unfolding fuse effect_of fuse_if fused_if fused_near Tells
fuse_tells s t k r = checked (table_check s t) refl
  where
    near : table_check s t ≡ (Ok tt) → (a : Result (Option Measured) Refusal) → told t k (answered (fused_if (averaging_of s) t k a))
    near p (Err why) = refl
    near p (Ok None) = refl
    near p (Ok (Some m)) =
        let f = find k (take t.count t.keys) in
        stored_tells s t k p f (fused_voxel (averaging_of s) (voxel_at f t) m) refl (has_place f t) refl

    checked : (c : Result (Unit {0}) Refusal) → table_check s t ≡ c → told t k (answered (fuse_if c s t k r))
    checked (Err why) e = refl
    checked (Ok tt) e = near e (admitted s k r)

module _ (s : Settings) (t : Table) (k : ℕ) (r : Reading) where
  says : {a : Result Fused Refusal} → (fuse s t k r).answer ≡ a → Tells t k a (fuse s t k r).left
  says e = subst (λ (a : Result Fused Refusal). Tells t k a (fuse s t k r).left) e (fuse_tells s t k r)

  -- New: the key was not stored, and there is one row more
  pub new_adds : (fuse s t k r).answer ≡ (Ok Fused.New) → (stored_key k t ≡ false) × ((fuse s t k r).left.count ≡ suc t.count)
  unfolding Tells
  new_adds e = says e

  -- Changed: the key was stored, and there are as many rows
  pub changed_stays : (fuse s t k r).answer ≡ (Ok Fused.Changed) → (stored_key k t ≡ true) × ((fuse s t k r).left.count ≡ t.count)
  unfolding Tells
  changed_stays e = says e

  -- a reading that is fused is New exactly when its key was not stored, and Changed exactly when it was
  pub new_or_changed :
      ((fuse s t k r).answer ≡ (Ok Fused.New)) ⊎ ((fuse s t k r).answer ≡ (Ok Fused.Changed))
      → (fuse s t k r).answer ≡ cond (stored_key k t) (Ok Fused.Changed) (Ok Fused.New)
  new_or_changed (inl e) = e ∙ rw (new_adds e).0
  new_or_changed (inr e) = e ∙ rw (changed_stays e).0

  -- the table is that of what the reading does, which no answer changes
  pub fuse_left : (fuse s t k r).left ≡ (effect_of s t k r).left
  unfolding fuse
  fuse_left = refl

-- a refused fuse leaves the table as it stood
pub refused_unchanged : (s : Settings) (t : Table) (k : ℕ) (r : Reading) (why : Refusal) → (fuse s t k r).answer ≡ Err why → (fuse s t k r).left ≡ t
unfolding Tells
refused_unchanged s t k r why e = says s t k r e

-- and so does a far one
pub far_unchanged : (s : Settings) (t : Table) (k : ℕ) (r : Reading) → (fuse s t k r).answer ≡ (Ok Fused.Far) → (fuse s t k r).left ≡ t
unfolding Tells
far_unchanged s t k r e = says s t k r e

-- ---- Far

step_near : (t : Table) (k : ℕ) (f : Option ℕ) → answers_far (fused_of (step_at f t k)) ≡ false
unfolding answers_far step_at
step_near t k (Some i) = refl
step_near t k None = refl

stored_near : (t : Table) (k : ℕ) (f : Option ℕ) (b : Bool) (v : Voxel) → answers_far (answered (stored t k b (step_at f t k) v)).answer ≡ false
unfolding answers_far stored
stored_near t k f false v = refl
stored_near t k f true v =
    cases (λ (x : Bool).
    answers_far
    (answered (cond x (effect (step_at f t k) (relaid t (put (row k v.distance v.weight) (rows t)))) (effect (Err TooLarge) t))).answer
    ≡ false)
    (within million v.distance)
    (λ e. step_near t k f)
    (λ e. refl)

-- where the table passes, a reading is answered Far exactly when its own tests say so, whatever the table holds
pub far_exactly :
    (s : Settings) (t : Table) (k : ℕ) (r : Reading)
    → table_check s t ≡ (Ok tt)
    → answers_far (fuse s t k r).answer ≡ says_far (admitted s k r)
unfolding fuse effect_of fuse_if fused_if fused_near says_far answers_far
far_exactly s t k r e = rw e (go (admitted s k r))
  where
    go : (a : Result (Option Measured) Refusal) → answers_far (answered (fused_if (averaging_of s) t k a)).answer ≡ says_far a
    go (Err why) = refl
    go (Ok None) = refl
    go (Ok (Some m)) =
        let f = find k (take t.count t.keys) in
        stored_near t k f (has_place f t) (fused_voxel (averaging_of s) (voxel_at f t) m)
