-- A batch of one is a fuse, a batch splits anywhere, its counts add up, and in a refused one the earlier readings stand: a batch is its readings
-- in turn, and what a part leaves passes the tests again.
-- Assumes nothing.
use Rattle.std.specs.Prelude.{Ok, Err, Result}
use mathlib.Core.Path.{◌≡◌, refl, sym, ap, subst, ◌∙◌}
use mathlib.Core.Bool.{true}
use mathlib.Core.List.{List, [], ◌∷◌, ◌++◌}
use Prim.Native.Nat.{ℕ, suc, ◌+◌, ◌≤◌, ◌<◌, zero-le, suc-le-suc}
use native.Mathlib.Nat.{add-zero, add-suc, suc-add, zero-add}
use native.Mathlib.Omega.{arith}
use borrow.Author.Tests.{le-leb, eq-eqb}
use lib.ListN.{length, take, length-append}
use lib.Ieee.{Float}
use Rattle.lists.specs.Beside.{beside_by}
use Rattle.lists.proofs.BesideLaws.{by_length, by_append}
use Rattle.refusals.specs.declared.Refusal.{Refusal}
use Rattle.table.specs.declared.Settings.{Settings}
use Rattle.table.specs.Table.{Table, lengths_ok, table_check}
use Rattle.table.proofs.RowLaws.{lengths_known}
use Rattle.table.proofs.Checking.{with_fit, with_passed}
use Rattle.fusing.specs.declared.Fused.{Fused}
use Rattle.batching.specs.declared.Counts.{Counts}
use Rattle.batching.specs.declared.RefusedReading.{RefusedReading}
use Rattle.batching.specs.declared.RefusedBatch.{RefusedBatch}
use Rattle.fusing.specs.Fusing.{Outcome, fuse_if, effect_of, fuse}
use Rattle.batching.specs.Batches.{Ending, Batched, refused_reading, refused_batch, refused_at_once, BatchOutcome, batch_outcome, BatchEnd, batch_end, readings_taken, batched_of, answer_of, Entry, entry, entries, direct_of, stop_or, batch_from, ahead_of, answers_from, counts_of, batch_if, batch_check, batch, batched_counts}
use Rattle.fusing.proofs.Keeping.{fuse_keeps}
use Rattle.fusing.proofs.FuseLaws.{refused_unchanged}
use Rattle.batching.proofs.CountLaws.{together, counts_append, counts_taken, rows_added}

-- ---- the tests

-- lists of readings that fit leave the table's tests
check_once : (s : Settings) (t : Table) (a b c : ℕ) → lengths_ok a b c 0 ≡ true → batch_check s t a b c ≡ table_check s t
check_once s t a b c h = with_fit (lengths_ok a b c 0) s t h

fits : (a b c : ℕ) → b ≡ a → c ≡ a → a ≤ 65536 → lengths_ok a b c 0 ≡ true
fits a b c p q h = rw (eq-eqb a b (sym p), eq-eqb a c (sym q), le-leb a 65536 h, le-leb 0 a (omega arith))

-- ---- one reading

-- a fuse's outcome as that of a batch of one
abbrev pub as_batch : Outcome → BatchOutcome
as_batch o = answer_of (stop_or o.answer 0 o.left (batch_end (Ok tt) o.left)) (counts_of (ahead_of o.answer []))

pub batch_of_one : (s : Settings) (t : Table) (k : ℕ) (d c : Float) → batch s t (k ∷ []) (d ∷ []) (c ∷ []) ≡ as_batch (fuse s t k (direct_of (entry k d c)))
unfolding batch batch_if batch_from answers_from beside_by fuse effect_of fuse_if stop_or ahead_of counts_of
batch_of_one s t k d c =
    ap (λ (q : Result (Unit {0}) Refusal). batch_if q s t (entry k d c ∷ [])) (check_once s t 1 1 1 refl) ∙ go (table_check s t) refl
  where
    go : (q : Result (Unit {0}) Refusal) → table_check s t ≡ q → batch_if q s t (entry k d c ∷ []) ≡ as_batch (fuse s t k (direct_of (entry k d c)))
    go (Err why) e = rw e
    go (Ok tt) e = refl

-- ---- two parts

-- where the first part went through, the second follows, with its counts; where it was refused, that stands
unfoldable pub followed_by : Batched → Table → (Counts → Table → BatchOutcome) → BatchOutcome
followed_by (Ok n) t next = next n t
followed_by (Err refused) t next = batch_outcome (Err refused) t

-- an outcome whose readings are counted from m, after others that have the counts n
unfoldable pub counted : ℕ → Counts → Batched → Batched
counted m n (Ok k) = Ok (together n k)
counted m n (Err refused) = Err (refused_batch refused.why (m + refused.at) (together n refused.counts))

abbrev pub counted_from : ℕ → Counts → BatchOutcome → BatchOutcome
counted_from m n o = batch_outcome (counted m n o.answer) o.left

-- numbers and counts of an answer are counted on
from_counted :
    (s : Settings) (m i : ℕ) (n k : Counts) (t : Table) (rs : List Entry)
    → answer_of (batch_from s (m + i) t rs) (together n k) ≡ counted_from m n (answer_of (batch_from s i t rs) k)
unfolding batch_from stop_or counted
from_counted s m i n k t [] = refl
from_counted s m i n k t (r ∷ rs) =
    go (fuse s t r.key (direct_of r)).answer (fuse s t r.key (direct_of r)).left
    (λ u. ap (λ (j : ℕ). answer_of (batch_from s j u rs) (together n k)) (sym (add-suc m i)) ∙ from_counted s m (suc i) n k u rs)
  where
    go :
        (a : Result Fused Refusal) (u : Table)
        → ((v : Table) → answer_of (batch_from s (suc (m + i)) v rs) (together n k) ≡ counted_from m n (answer_of (batch_from s (suc i) v rs) k))
        → answer_of (stop_or a (m + i) u (batch_from s (suc (m + i)) u rs)) (together n k)
        ≡ counted_from m n (answer_of (stop_or a i u (batch_from s (suc i) u rs)) k)
    go (Err why) u h = refl
    go (Ok Fused.Far) u h = h u
    go (Ok Fused.New) u h = h u
    go (Ok Fused.Changed) u h = h u

-- a first part that ends so and leaves u: where it went through, the whole is the second part, and the answers are those of both; where it was
-- refused, the whole is the first part
unfoldable Joins : Ending → Table → BatchEnd → BatchEnd → List (Result Fused Refusal) → List (Result Fused Refusal) → List (Result Fused Refusal) → Type 0
Joins (Ok tt) u whole second xs ys zs = (whole ≡ second) × (xs ≡ ys ++ zs)
Joins (Err refused) u whole second xs ys zs = (whole ≡ batch_end (Err refused) u) × (xs ≡ ys)

-- the whole, its first part, and readings from the j-th on as the second; the answers of the whole and of the first part
abbrev PartJoins : Settings → ℕ → List Entry → BatchEnd → BatchEnd → List (Result Fused Refusal) → List (Result Fused Refusal) → Type 0
PartJoins s j qs whole first xs ys =
    Joins first.ending first.left whole (batch_from s j first.left qs) xs ys (answers_from s first.left qs)

joins_more :
    (a : Result Fused Refusal) (e : Ending) (u : Table) (whole second : BatchEnd) (xs ys zs : List (Result Fused Refusal))
    → Joins e u whole second xs ys zs
    → Joins e u whole second (a ∷ xs) (a ∷ ys) zs
unfolding Joins
joins_more a (Ok tt) u whole second xs ys zs h = (h.0, ap {B = List (Result Fused Refusal)} (λ l. a ∷ l) h.1)
joins_more a (Err refused) u whole second xs ys zs h = (h.0, ap {B = List (Result Fused Refusal)} (λ l. a ∷ l) h.1)

-- readings in two parts, the first of them the i-th
abbrev InTwo : Settings → ℕ → Table → List Entry → List Entry → Type 0
InTwo s i t rs qs = PartJoins s (i + length rs) qs (batch_from s i t (rs ++ qs)) (batch_from s i t rs) (answers_from s t (rs ++ qs)) (answers_from s t rs)

joins : (s : Settings) (i : ℕ) (t : Table) (rs qs : List Entry) → InTwo s i t rs qs
unfolding batch_from stop_or answers_from ahead_of Joins
joins s i t [] qs = (rw add-zero, refl)
joins s i t (r ∷ rs) qs = go (fuse s t r.key (direct_of r)).answer (fuse s t r.key (direct_of r)).left (λ u. joins s (suc i) u rs qs)
  where
    later :
        (a : Result Fused Refusal) (u : Table)
        → InTwo s (suc i) u rs qs
        → PartJoins s (i + suc (length rs)) qs (batch_from s (suc i) u (rs ++ qs)) (batch_from s (suc i) u rs) (a ∷ answers_from s u (rs ++ qs))
        (a ∷ answers_from s u rs)
    later a u h =
        let first = batch_from s (suc i) u rs in
        rw (add-suc i (length rs), ← suc-add i (length rs))
        (joins_more a first.ending first.left (batch_from s (suc i) u (rs ++ qs)) (batch_from s (suc i + length rs) first.left qs)
        (answers_from s u (rs ++ qs)) (answers_from s u rs) (answers_from s first.left qs) h)

    go :
        (a : Result Fused Refusal) (u : Table)
        → ((v : Table) → InTwo s (suc i) v rs qs)
        → PartJoins s (i + suc (length rs)) qs (stop_or a i u (batch_from s (suc i) u (rs ++ qs))) (stop_or a i u (batch_from s (suc i) u rs))
        (ahead_of a (answers_from s u (rs ++ qs))) (ahead_of a (answers_from s u rs))
    go (Err why) u h = (refl, refl)
    go (Ok Fused.Far) u h = later (Ok Fused.Far) u (h u)
    go (Ok Fused.New) u h = later (Ok Fused.New) u (h u)
    go (Ok Fused.Changed) u h = later (Ok Fused.Changed) u (h u)

-- what is answered to both parts
joined_answer :
    (e : Ending) (u : Table) (whole : BatchEnd) (second : Table → BatchEnd) (xs ys : List (Result Fused Refusal)) (zs : Table → List (Result Fused Refusal))
    → Joins e u whole (second u) xs ys (zs u)
    → answer_of whole (counts_of xs) ≡ followed_by (batched_of e (counts_of ys)) u (λ n v. answer_of (second v) (together n (counts_of (zs v))))
unfolding Joins followed_by
joined_answer (Ok tt) u whole second xs ys zs h = rw (h.0, h.1) (ap (answer_of (second u)) (counts_append ys (zs u)))
joined_answer (Err refused) u whole second xs ys zs h = rw (h.0, h.1)

from_splits :
    (s : Settings) (i : ℕ) (t : Table) (rs qs : List Entry)
    → answer_of (batch_from s i t (rs ++ qs)) (counts_of (answers_from s t (rs ++ qs)))
    ≡ followed_by (batched_of (batch_from s i t rs).ending (counts_of (answers_from s t rs))) (batch_from s i t rs).left
    (λ n u. answer_of (batch_from s (i + length rs) u qs) (together n (counts_of (answers_from s u qs))))
from_splits s i t rs qs =
    joined_answer (batch_from s i t rs).ending (batch_from s i t rs).left (batch_from s i t (rs ++ qs))
    (λ u. batch_from s (i + length rs) u qs) (answers_from s t (rs ++ qs)) (answers_from s t rs) (λ u. answers_from s u qs) (joins s i t rs qs)

-- a batch keeps an accepted table accepted
from_keeps : (s : Settings) (i : ℕ) (t : Table) (rs : List Entry) → table_check s t ≡ (Ok tt) → table_check s (batch_from s i t rs).left ≡ (Ok tt)
unfolding batch_from stop_or
from_keeps s i t [] e = e
from_keeps s i t (r ∷ rs) e =
    go (fuse s t r.key (direct_of r)).answer (fuse s t r.key (direct_of r)).left
    (fuse_keeps s t r.key (direct_of r) e) (λ u h. from_keeps s (suc i) u rs h)
  where
    go :
        (a : Result Fused Refusal) (u : Table)
        → table_check s u ≡ (Ok tt)
        → ((v : Table) → table_check s v ≡ (Ok tt) → table_check s (batch_from s (suc i) v rs).left ≡ (Ok tt))
        → table_check s (stop_or a i u (batch_from s (suc i) u rs)).left ≡ (Ok tt)
    go (Err why) u h next = h
    go (Ok Fused.Far) u h next = next u h
    go (Ok Fused.New) u h next = next u h
    go (Ok Fused.Changed) u h next = next u h

pub batch_keeps :
    (s : Settings) (t : Table) (ks : List ℕ) (ds cs : List Float)
    → table_check s t ≡ (Ok tt)
    → table_check s (batch s t ks ds cs).left ≡ (Ok tt)
unfolding batch batch_if
batch_keeps s t ks ds cs e = go (batch_check s t (length ks) (length ds) (length cs))
  where
    go : (q : Result (Unit {0}) Refusal) → table_check s (batch_if q s t (entries ks ds cs)).left ≡ (Ok tt)
    go (Err why) = e
    go (Ok tt) = from_keeps s 0 t (entries ks ds cs) e

followed_same :
    (a : Batched) (u : Table) (f g : Counts → Table → BatchOutcome)
    → ((n : Counts) → f n u ≡ g n u)
    → followed_by a u f ≡ followed_by a u g
unfolding followed_by
followed_same (Ok n) u f g h = h n
followed_same (Err refused) u f g h = refl

-- a batch splits anywhere: the second part goes on from the table and the counts of the first
pub batch_splits :
    (s : Settings) (t : Table) (ks ks' : List ℕ) (ds ds' cs cs' : List Float)
    → length ds ≡ length ks
    → length cs ≡ length ks
    → length ds' ≡ length ks'
    → length cs' ≡ length ks'
    → length ks + length ks' ≤ 65536
    → batch s t (ks ++ ks') (ds ++ ds') (cs ++ cs')
    ≡ followed_by (batch s t ks ds cs).answer (batch s t ks ds cs).left
    (λ n u. counted_from (length ks) n (batch s u ks' ds' cs'))
unfolding batch batch_if followed_by
batch_splits s t ks ks' ds ds' cs cs' p q p' q' h =
    let a = length-append ks ks' in
    let b = length-append ds ds' in
    let c = length-append cs cs' in
    let whole = fits (length (ks ++ ks')) (length (ds ++ ds')) (length (cs ++ cs')) (omega arith) (omega arith) (omega arith) in
    let first = fits (length ks) (length ds) (length cs) p q (omega arith) in
    rw (
      check_once s t (length (ks ++ ks')) (length (ds ++ ds')) (length (cs ++ cs')) whole,
      check_once s t (length ks) (length ds) (length cs) first,
      by_append entry ks ks' ds ds' cs cs' p q,
    )
    (go (table_check s t) refl)
  where
    second :
        (n : Counts) (u : Table)
        → table_check s u ≡ (Ok tt)
        → answer_of (batch_from s (0 + length (entries ks ds cs)) u (entries ks' ds' cs')) (together n (counts_of (answers_from s u (entries ks' ds' cs'))))
        ≡ counted_from (length ks) n
        (batch_if (batch_check s u (length ks') (length ds') (length cs')) s u (entries ks' ds' cs'))
    second n u e =
        ap (λ (j : ℕ). answer_of (batch_from s j u (entries ks' ds' cs')) (together n (counts_of (answers_from s u (entries ks' ds' cs')))))
        (zero-add (length (entries ks ds cs)) ∙ by_length entry ks ds cs p q ∙ sym (add-zero (length ks)))
        ∙ from_counted s (length ks) 0 n (counts_of (answers_from s u (entries ks' ds' cs'))) u (entries ks' ds' cs')
        ∙ ap (λ (r : Result (Unit {0}) Refusal). counted_from (length ks) n (batch_if r s u (entries ks' ds' cs')))
        (sym (check_once s u (length ks') (length ds') (length cs')
        (fits (length ks') (length ds') (length cs') p' q' (omega arith))
        ∙ e))

    go :
        (r : Result (Unit {0}) Refusal)
        → table_check s t ≡ r
        → batch_if r s t (entries ks ds cs ++ entries ks' ds' cs')
        ≡ followed_by (batch_if r s t (entries ks ds cs)).answer (batch_if r s t (entries ks ds cs)).left
        (λ n u.
        counted_from (length ks) n
        (batch_if (batch_check s u (length ks') (length ds') (length cs')) s u (entries ks' ds' cs')))
    go (Err why) e = refl
    go (Ok tt) e =
        let b = batch_from s 0 t (entries ks ds cs) in
        from_splits s 0 t (entries ks ds cs) (entries ks' ds' cs')
        ∙ followed_same (batched_of b.ending (counts_of (answers_from s t (entries ks ds cs)))) b.left
        (λ n u.
        answer_of (batch_from s (0 + length (entries ks ds cs)) u (entries ks' ds' cs')) (together n (counts_of (answers_from s u (entries ks' ds' cs')))))
        (λ n u.
        counted_from (length ks) n
        (batch_if (batch_check s u (length ks') (length ds') (length cs')) s u (entries ks' ds' cs')))
        (λ n. second n b.left (from_keeps s 0 t (entries ks ds cs) e))

-- ---- the table and the counts of a call

-- the counts of an answer to m readings add up
unfoldable Adds : ℕ → Batched → Type 0
Adds m (Ok n) = n.added + n.changed + n.far ≡ m
Adds m (Err refused) = refused.counts.added + refused.counts.changed + refused.counts.far ≡ refused.at

module _ (s : Settings) (t : Table) (ks : List ℕ) (ds cs : List Float) where
  abbrev tests : Result (Unit {0}) Refusal
  tests = batch_check s t (length ks) (length ds) (length cs)

  -- refused by its tests, a batch leaves the table and has counted none
  pub tested_out : (why : Refusal) → tests ≡ Err why → batch s t ks ds cs ≡ batch_outcome (Err (refused_at_once why)) t
  unfolding batch batch_if
  tested_out why e = rw e

  -- otherwise the table is what its readings in turn leave, which no count changes
  pub batch_left : tests ≡ (Ok tt) → (batch s t ks ds cs).left ≡ (batch_from s 0 t (entries ks ds cs)).left
  unfolding batch batch_if
  batch_left e = rw e

  -- and the counts are those of what the readings are answered in turn
  pub batch_counts : tests ≡ (Ok tt) → batched_counts (batch s t ks ds cs).answer ≡ counts_of (answers_from s t (entries ks ds cs))
  unfolding batch batch_if
  batch_counts e = rw e (told (batch_from s 0 t (entries ks ds cs)).ending)
    where
      told : (e : Ending) {n : Counts} → batched_counts (batched_of e n) ≡ n
      told (Ok tt) = refl
      told (Err refused) = refl

  -- the rows that there are more are those that were added
  pub batch_rows : (batch s t ks ds cs).left.count ≡ t.count + (batched_counts (batch s t ks ds cs).answer).added
  batch_rows = go tests refl
    where
      go : (q : Result (Unit {0}) Refusal) → tests ≡ q → (batch s t ks ds cs).left.count ≡ t.count + (batched_counts (batch s t ks ds cs).answer).added
      go (Err why) e = rw (tested_out why e) (sym (add-zero t.count))
      go (Ok tt) e = rw (batch_left e, batch_counts e) (rows_added s 0 t (entries ks ds cs))

  add_up : Adds (length ks) (batch s t ks ds cs).answer
  unfolding batch batch_if Adds
  add_up = go tests refl
    where
      counted_out : (e : Ending) (n : Counts) → n.added + n.changed + n.far ≡ readings_taken e (length ks) → Adds (length ks) (batched_of e n)
      counted_out (Ok tt) n h = h
      counted_out (Err refused) n h = h

      go : (q : Result (Unit {0}) Refusal) → tests ≡ q → Adds (length ks) (batch_if q s t (entries ks ds cs)).answer
      go (Err why) e = refl
      go (Ok tt) e =
          let k = lengths_known (length ks) (length ds) (length cs) 0 (with_passed (lengths_ok (length ks) (length ds) (length cs) 0) s t e).0 in
          let b = batch_from s 0 t (entries ks ds cs) in
          counted_out b.ending (counts_of (answers_from s t (entries ks ds cs)))
          (rw (zero-add, zero-add, by_length entry ks ds cs k.1 k.2) at (counts_taken s 0 t (entries ks ds cs)))

  -- of a batch that is done, the three counts are its readings
  pub done_counts : (n : Counts) → (batch s t ks ds cs).answer ≡ Ok n → n.added + n.changed + n.far ≡ length ks
  unfolding Adds
  done_counts n e = subst (Adds (length ks)) e add_up

  -- of a refused one, they are the number of the refused reading
  pub refused_counts :
      (why : Refusal) (i : ℕ) (n : Counts)
      → (batch s t ks ds cs).answer ≡ Err (refused_batch why i n)
      → n.added + n.changed + n.far ≡ i
  unfolding Adds
  refused_counts why i n e = subst (Adds (length ks)) e add_up

-- ---- a refused batch

-- a batch whose first reading is the j-th and that names reading i: those before it went through, leave what the batch leaves, and are what it counts
pub record Stands (s : Settings) (j : ℕ) (t : Table) (rs : List Entry) (i : ℕ) : Type 0 where
  pub earlier : ℕ
  pub named : i ≡ j + earlier
  pub inside : earlier < length rs
  pub same : batch_from s j t (take earlier rs) ≡ batch_end (Ok tt) (batch_from s j t rs).left
  pub same_answers : answers_from s t (take earlier rs) ≡ answers_from s t rs

stands : (s : Settings) (j : ℕ) (t : Table) (rs : List Entry) (why : Refusal) (i : ℕ) → (batch_from s j t rs).ending ≡ Err (refused_reading why i) → Stands s j t rs i
unfolding batch_from stop_or answers_from ahead_of
stands s j t [] why i e = let z : ◌≡◌ {A = ℕ} 0 1 = cc in absurd (omega arith)
stands s j t (r ∷ rs) why i e = go (fuse s t r.key (direct_of r)).answer refl e (λ q. stands s (suc j) (fuse s t r.key (direct_of r)).left rs why i q)
  where
    -- the first reading is taken
    later :
        (a : Result Fused Refusal)
        → (fuse s t r.key (direct_of r)).answer ≡ a
        → ((b : BatchEnd) → stop_or a j (fuse s t r.key (direct_of r)).left b ≡ b)
        → ((xs : List (Result Fused Refusal)) → ahead_of a xs ≡ a ∷ xs)
        → Stands s (suc j) (fuse s t r.key (direct_of r)).left rs i
        → Stands s j t (r ∷ rs) i
    later a q on ahead n =
        record {
          earlier = suc n.earlier;
          named = omega (arith, n.named);
          inside = suc-le-suc n.inside;
          same = rw (q, on, on) n.same;
          same_answers = rw (q, ahead, ahead, n.same_answers);
        }

    go :
        (a : Result Fused Refusal)
        → (fuse s t r.key (direct_of r)).answer ≡ a
        → (stop_or a j (fuse s t r.key (direct_of r)).left (batch_from s (suc j) (fuse s t r.key (direct_of r)).left rs)).ending ≡ Err (refused_reading why i)
        → ((batch_from s (suc j) (fuse s t r.key (direct_of r)).left rs).ending ≡ Err (refused_reading why i)
        → Stands s (suc j) (fuse s t r.key (direct_of r)).left rs i)
        → Stands s j t (r ∷ rs) i
    go (Err w) q f next =
        let e : refused_reading w j ≡ refused_reading why i = cc in
        let n : j ≡ i = ap (λ (x : RefusedReading). x.at) e in
        record {
          earlier = 0;
          named = rw add-zero (sym n);
          inside = suc-le-suc zero-le;
          same = rw q (ap (batch_end (Ok tt)) (sym (refused_unchanged s t r.key (direct_of r) w q)));
          same_answers = rw q;
        }
    go (Ok Fused.Far) q f next = later (Ok Fused.Far) q (λ b. refl) (λ xs. refl) (next f)
    go (Ok Fused.New) q f next = later (Ok Fused.New) q (λ b. refl) (λ xs. refl) (next f)
    go (Ok Fused.Changed) q f next = later (Ok Fused.Changed) q (λ b. refl) (λ xs. refl) (next f)

-- an answer tells its ending
told : (e : Ending) (m : Counts) {n : Counts} {why : Refusal} {i : ℕ} → batched_of e m ≡ Err (refused_batch why i n) → e ≡ Err (refused_reading why i)
told (Ok tt) m q = let z : ◌≡◌ {A = ℕ} 0 1 = cc in absurd (omega arith)
told (Err refused) m {n} {why} {i} q =
    let e : refused_batch refused.why refused.at m ≡ refused_batch why i n = cc in
    rw (← ap (λ (x : RefusedBatch). x.why) e, ← ap (λ (x : RefusedBatch). x.at) e)

-- the readings before the refused one stand, and nothing else changed
pub earlier_stand :
    (s : Settings) (t : Table) (ks : List ℕ) (ds cs : List Float) (why : Refusal) (i : ℕ) (n : Counts)
    → batch_check s t (length ks) (length ds) (length cs) ≡ (Ok tt)
    → (batch s t ks ds cs).answer ≡ Err (refused_batch why i n)
    → Stands s 0 t (entries ks ds cs) i
unfolding batch batch_if
earlier_stand s t ks ds cs why i n p e = stands s 0 t (entries ks ds cs) why i (told (batch_from s 0 t (entries ks ds cs)).ending _ (rw p at e))
