-- `batches::batch_step` meets its contract: what a part through own rows leaves, or one reading more.
-- Assumes nothing.
use Rattle.std.specs.Prelude.{ℕ, Bool, true, false, Ok, Err, Result}
use Rattle.std.specs.Result.{result_eq}
use Rattle.std.proofs.Common.{ap, not}
use mathlib.Core.Path.{◌≡◌, refl, ◌∙◌, sym}
use borrow.Author.Tests.{eqb-true, eq-eqb}
use lib.Dec.{eqb}
use Rattle.batching.specs.declared.RefusedReading.{RefusedReading}
use Rattle.owning.proofs.Running.{went_on, then_runs}
use Rattle.batches.proofs.batch_step.Goals as goal
use Rattle.batches.proofs.batch_step.Goals.{then-readings-from-ge-MANY+else-ne, else-readings-from-ge-MANY}

held : (b : Bool) → not b ≡ false → b ≡ true
held true h = refl
held false h = sym h

-- the test tells whether a part went nowhere
stayed : (g : RefusedReading → RefusedReading → Bool) (e : Result ℕ RefusedReading) (n : ℕ) → not (result_eq eqb g e (Ok n)) ≡ false → e ≡ Ok n
stayed g (Ok i) n h = ap {B = Result ℕ RefusedReading} (λ (j : ℕ). Ok j) (eqb-true i n (held (eqb i n) h))
stayed g (Err refused) n h = cc

moved : (g : RefusedReading → RefusedReading → Bool) (e : Result ℕ RefusedReading) (n : ℕ) → not (result_eq eqb g e (Ok n)) ≡ true → e ≡ Ok n → ⊥
moved g (Ok i) n h e = let same : i ≡ n = cc in let wrong : false ≡ true = rw (eq-eqb i n same) at h in cc
moved g (Err refused) n h e = cc

pub returns-then-ne-clause-table_after : goal.returns-then-ne-clause-table_after
returns-then-ne-clause-table_after c = went_on _ _ _ _ _ _ c.batch_run-run.ensures.table_after (moved _ _ _ (sym c.ne.ensures ∙ c.if-ne.true))

pub returns-clause-table_after : goal.returns-clause-table_after
returns-clause-table_after c =
    elim c.if-readings-from-ge-MANY.branch [
      | then-readings-from-ge-MANY+else-ne w ↦
          then_runs _ _ _ _ _ _ w.batch_run-run.ensures.table_after (stayed _ _ _ (sym w.ne.ensures ∙ w.if-ne.false)) _ _
          (rw w.rows-is at c.batch_one.ensures.table_after)
      | else-readings-from-ge-MANY w ↦ rw w.rows-is at c.batch_one.ensures.table_after
    ]
