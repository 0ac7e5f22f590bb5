-- The counts of a batch: together they are the readings that were taken, those that added a row are the rows that there are more, and the far
-- ones are told by the readings alone. Each is one step of the readings in turn.
-- Assumes nothing.
use Rattle.std.specs.Prelude.{Ok, Err, Result}
use mathlib.Core.Path.{◌≡◌, refl, sym, ap, ◌∙◌}
use mathlib.Core.Bool.{Bool, true, false, cond}
use mathlib.Core.List.{List, [], ◌∷◌, ◌++◌}
use Prim.Native.Nat.{ℕ, zero, suc, ◌+◌, ◌-◌, ◌≤◌, zero-le, suc-le-suc}
use native.Mathlib.Nat.{add-zero, zero-add, suc-add, add-suc}
use native.Mathlib.Numerals.{add-one}
use native.Mathlib.Omega.{arith}
use lib.ListN.{length, drop}
use Rattle.lists.proofs.Bools.{cases}
use Rattle.table.specs.declared.Settings.{Settings}
use Rattle.table.specs.Table.{Table, table_check}
use Rattle.fusing.specs.declared.Fused.{Fused}
use Rattle.fusing.specs.Fusing.{fuse}
use Rattle.fusing.specs.Steps.{answers_far}
use Rattle.fusing.proofs.FuseLaws.{Tells, fuse_tells, far_exactly}
use Rattle.fusing.proofs.Keeping.{fuse_keeps}
use Rattle.batching.specs.declared.Counts.{Counts}
use Rattle.batching.specs.Batches.{Ending, BatchEnd, batch_end, readings_taken, Entry, direct_of, stop_or, batch_from, ahead_of, answers_from, counts, counting, counts_of}
use Rattle.batching.specs.Steps.{is_far, far_up_to}
use Rattle.refusals.specs.declared.Refusal.{Refusal}

-- ---- counts of answers

-- counts added up
abbrev pub together : Counts → Counts → Counts
together n m = counts (n.added + m.added) (n.changed + m.changed) (n.far + m.far)

-- answers, and more answers
pub counts_append : (xs ys : List (Result Fused Refusal)) → counts_of (xs ++ ys) ≡ together (counts_of xs) (counts_of ys)
unfolding counts_of counting
counts_append [] ys = rw (zero-add, zero-add, zero-add)
counts_append ((Ok Fused.New) ∷ xs) ys = rw (counts_append xs ys, suc-add)
counts_append ((Ok Fused.Changed) ∷ xs) ys = rw (counts_append xs ys, suc-add)
counts_append ((Ok Fused.Far) ∷ xs) ys = rw (counts_append xs ys, suc-add)
counts_append (Err why ∷ xs) ys = counts_append xs ys

-- ---- the readings in turn

-- all that are counted
abbrev total : Counts → ℕ
total n = n.added + n.changed + n.far

module _ (s : Settings) where
  -- as many as there are answers
  counts_sum : (t : Table) (rs : List Entry) → total (counts_of (answers_from s t rs)) ≡ length (answers_from s t rs)
  unfolding answers_from ahead_of counts_of counting
  counts_sum t [] = refl
  counts_sum t (r ∷ rs) = go (fuse s t r.key (direct_of r)).answer (fuse s t r.key (direct_of r)).left (λ u. counts_sum u rs)
    where
      go :
          (a : Result Fused Refusal) (u : Table)
          → ((v : Table) → total (counts_of (answers_from s v rs)) ≡ length (answers_from s v rs))
          → total (counts_of (ahead_of a (answers_from s u rs))) ≡ length (ahead_of a (answers_from s u rs))
      go (Err why) u next = refl
      go (Ok Fused.New) u next = omega (arith, next u)
      go (Ok Fused.Changed) u next = omega (arith, next u)
      go (Ok Fused.Far) u next = omega (arith, next u)

  -- as many answers as readings that were taken, of which the first is the i-th
  pub answers_taken :
      (i : ℕ) (t : Table) (rs : List Entry)
      → i + length (answers_from s t rs) ≡ readings_taken (batch_from s i t rs).ending (i + length rs)
  unfolding batch_from stop_or answers_from ahead_of
  answers_taken i t [] = refl
  answers_taken i t (r ∷ rs) =
      go (fuse s t r.key (direct_of r)).answer (fuse s t r.key (direct_of r)).left (λ u. answers_taken (suc i) u rs)
    where
      later :
          (u : Table)
          → suc i + length (answers_from s u rs) ≡ readings_taken (batch_from s (suc i) u rs).ending (suc i + length rs)
          → i + suc (length (answers_from s u rs)) ≡ readings_taken (batch_from s (suc i) u rs).ending (i + suc (length rs))
      later u e = rw (add-suc i (length (answers_from s u rs)), add-suc i (length rs), ← suc-add i (length (answers_from s u rs)), ← suc-add i (length rs)) e

      go :
          (a : Result Fused Refusal) (u : Table)
          → ((v : Table) → suc i + length (answers_from s v rs) ≡ readings_taken (batch_from s (suc i) v rs).ending (suc i + length rs))
          → i + length (ahead_of a (answers_from s u rs)) ≡ readings_taken (stop_or a i u (batch_from s (suc i) u rs)).ending (i + suc (length rs))
      go (Err why) u next = add-zero i
      go (Ok Fused.New) u next = later u (next u)
      go (Ok Fused.Changed) u next = later u (next u)
      go (Ok Fused.Far) u next = later u (next u)

  -- together the counts are the readings that were taken
  pub counts_taken :
      (i : ℕ) (t : Table) (rs : List Entry)
      → i + total (counts_of (answers_from s t rs)) ≡ readings_taken (batch_from s i t rs).ending (i + length rs)
  counts_taken i t rs = ap (λ (n : ℕ). i + n) (counts_sum t rs) ∙ answers_taken i t rs

  -- there are as many rows more as were added
  pub rows_added : (i : ℕ) (t : Table) (rs : List Entry) → (batch_from s i t rs).left.count ≡ t.count + (counts_of (answers_from s t rs)).added
  unfolding batch_from stop_or answers_from ahead_of counts_of counting Tells
  rows_added i t [] = sym (add-zero t.count)
  rows_added i t (r ∷ rs) =
      go (fuse s t r.key (direct_of r)).answer (fuse s t r.key (direct_of r)).left (fuse_tells s t r.key (direct_of r))
      (λ u. rows_added (suc i) u rs)
    where
      go :
          (a : Result Fused Refusal) (u : Table)
          → Tells t r.key a u
          → ((v : Table) → (batch_from s (suc i) v rs).left.count ≡ v.count + (counts_of (answers_from s v rs)).added)
          → (stop_or a i u (batch_from s (suc i) u rs)).left.count ≡ t.count + (counts_of (ahead_of a (answers_from s u rs))).added
      go (Err why) u h next = ap (λ (v : Table). v.count) h ∙ sym (add-zero t.count)
      go (Ok Fused.New) u h next = omega (arith, next u, h.1)
      go (Ok Fused.Changed) u h next = omega (arith, next u, h.1)
      go (Ok Fused.Far) u h next = omega (arith, next u, ap (λ (v : Table). v.count) h)

-- ---- far readings

-- the far count, by the readings alone
pub far_told :
    (s : Settings) (t : Table) (rs : List Entry)
    → table_check s t ≡ (Ok tt)
    → (counts_of (answers_from s t rs)).far ≡ far_up_to s rs (length (answers_from s t rs))
unfolding answers_from ahead_of counts_of counting far_up_to answers_far
far_told s t [] e = refl
far_told s t (r ∷ rs) e =
    go (fuse s t r.key (direct_of r)).answer (fuse s t r.key (direct_of r)).left (far_exactly s t r.key (direct_of r) e)
    (fuse_keeps s t r.key (direct_of r) e) (λ u h. far_told s u rs h)
  where
    go :
        (a : Result Fused Refusal) (u : Table)
        → answers_far a ≡ is_far s r
        → table_check s u ≡ (Ok tt)
        → ((v : Table) → table_check s v ≡ (Ok tt) → (counts_of (answers_from s v rs)).far ≡ far_up_to s rs (length (answers_from s v rs)))
        → (counts_of (ahead_of a (answers_from s u rs))).far ≡ far_up_to s (r ∷ rs) (length (ahead_of a (answers_from s u rs)))
    go (Err why) u f h next = refl
    go (Ok Fused.New) u f h next = rw (← f) (next u h)
    go (Ok Fused.Changed) u f h next = rw (← f) (next u h)
    go (Ok Fused.Far) u f h next = rw (← f) (ap suc (next u h))

module _ (s : Settings) where
  -- one reading more
  far_next :
      (rs : List Entry) (i : ℕ) (r : Entry)
      → drop i rs ≡ r ∷ drop (suc i) rs
      → far_up_to s rs (suc i) ≡ cond (is_far s r) (suc (far_up_to s rs i)) (far_up_to s rs i)
  unfolding far_up_to
  far_next [] zero r e = let z : ◌≡◌ {A = ℕ} 0 1 = cc in absurd (omega arith)
  far_next [] (suc i) r e = let z : ◌≡◌ {A = ℕ} 0 1 = cc in absurd (omega arith)
  far_next (x ∷ rs) zero r e = let same : x ≡ r = cc in rw same
  far_next (x ∷ rs) (suc i) r e = rw (far_next rs i r e) (past (is_far s x) (is_far s r) (far_up_to s rs i))
    where
      past : (a b : Bool) (n : ℕ) → cond a (suc (cond b (suc n) n)) (cond b (suc n) n) ≡ cond b (suc (cond a (suc n) n)) (cond a (suc n) n)
      past true true n = refl
      past true false n = refl
      past false true n = refl
      past false false n = refl

  pub far_passed : (rs : List Entry) (i : ℕ) (r : Entry) → drop i rs ≡ r ∷ drop (suc i) rs → is_far s r ≡ true → far_up_to s rs (i + 1) ≡ far_up_to s rs i + 1
  far_passed rs i r e f = rw (add-one, add-one, far_next rs i r e, f)

  pub near_passed : (rs : List Entry) (i : ℕ) (r : Entry) → drop i rs ≡ r ∷ drop (suc i) rs → is_far s r ≡ false → far_up_to s rs (i + 1) ≡ far_up_to s rs i
  near_passed rs i r e f = rw (add-one, far_next rs i r e, f)

  -- no more than there are readings
  pub far_few : (rs : List Entry) (n : ℕ) → far_up_to s rs n ≤ length rs
  unfolding far_up_to
  far_few [] zero = zero-le
  far_few [] (suc n) = zero-le
  far_few (r ∷ rs) zero = zero-le
  far_few (r ∷ rs) (suc n) =
      cases (λ (b : Bool). cond b (suc (far_up_to s rs n)) (far_up_to s rs n) ≤ suc (length rs)) (is_far s r)
      (λ e. suc-le-suc (far_few rs n))
      (λ e. omega (arith, far_few rs n))

-- ---- the counts by what the code knows

-- the rows before and after, the readings that were taken of m, and those of them that were far
pub counts_known :
    (s : Settings) (t : Table) (rs : List Entry) (ending : Ending) (u : Table) (m taken far : ℕ)
    → table_check s t ≡ (Ok tt)
    → batch_end ending u ≡ batch_from s 0 t rs
    → length rs ≡ m
    → taken ≡ readings_taken ending m
    → far ≡ far_up_to s rs (readings_taken ending m)
    → (t.count ≤ u.count)
    × (u.count - t.count + far ≤ taken)
    × (counts (u.count - t.count) (taken - (u.count - t.count) - far) far ≡ counts_of (answers_from s t rs))
counts_known s t rs ending u m taken far passed e l k f =
    let n = counts_of (answers_from s t rs) in
    let rows : u.count ≡ t.count + n.added = ap (λ (b : BatchEnd). b.left.count) e ∙ rows_added s 0 t rs in
    let all : n.added + n.changed + n.far ≡ taken = of_all (counts_taken s 0 t rs) in
    let many : length (answers_from s t rs) ≡ taken = of_all (answers_taken s 0 t rs) in
    let fars : far ≡ n.far = f ∙ ap (far_up_to s rs) (sym k ∙ sym many) ∙ sym (far_told s t rs passed) in
    let news : u.count - t.count ≡ n.added = omega arith in
    let olds : taken - (u.count - t.count) - far ≡ n.changed = omega arith in
    (omega arith, omega arith, same_counts news olds fars)
  where
    of_all : {x : ℕ} → 0 + x ≡ readings_taken (batch_from s 0 t rs).ending (0 + length rs) → x ≡ taken
    of_all {x} q =
        sym (zero-add x) ∙ q ∙ ap (readings_taken (batch_from s 0 t rs).ending) (zero-add (length rs) ∙ l)
        ∙ ap (λ (b : BatchEnd). readings_taken b.ending m) (sym e) ∙ sym k

    same_counts : {x y z a b c : ℕ} → x ≡ a → y ≡ b → z ≡ c → counts x y z ≡ counts a b c
    same_counts p q r = cc
