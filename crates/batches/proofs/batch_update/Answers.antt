-- `batches::batch_update` meets its contract: the tests of a call, then `batch_sound`, and the counts by the rows and the far readings.
-- Assumes nothing.
use Rattle.std.proofs.lemmas.Result.{err_from_is_err_and}
use mathlib.Core.Path.{◌≡◌, ◌∙◌, ap, sym}
use Rattle.lists.proofs.BesideLaws.{by_length}
use Rattle.table.specs.Table.{Table}
use Rattle.batching.specs.declared.Counts.{Counts}
use Rattle.batching.specs.Batches.{Ending, Batched, BatchEnd, batch_outcome, batch_end, batched_of, answer_of, entry, batch, batch_if}
use Rattle.batching.proofs.CountLaws.{counts_known}
use Rattle.table.proofs.RowLaws.{lengths_known}
use Rattle.table.proofs.Checking.{with_passed}
use Rattle.batches.proofs.batch_update.Goals as goal

-- an ending is answered with its counts
answered :
    {a : Batched} {e : Ending} {n m : Counts} {t : Table} {b : BatchEnd}
    → a ≡ batched_of e n
    → n ≡ m
    → batch_end e t ≡ b
    → batch_outcome a t ≡ answer_of b m
answered {m = m} p q r = rw (p, q) (ap (λ (b : BatchEnd). answer_of b m) r)

pub batch_sound-went-requires : goal.batch_sound-went-requires
batch_sound-went-requires c =
    let p = with_passed _ _ _ (sym c.check_with.ensures ∙ c.in_ok-check_with.was) in
    let k = lengths_known _ _ _ _ (sym c.lengths_ok-fits.ensures ∙ p.0) in
    record { count_value = p.1; batch_distances_len = (k.1, k.2) }

pub counts_of-counts-requires : goal.counts_of-counts-requires
counts_of-counts-requires c =
    let p = with_passed _ _ _ (sym c.check_with.ensures ∙ c.in_ok-check_with.was) in
    let k = lengths_known _ _ _ _ (sym c.lengths_ok-fits.ensures ∙ p.0) in
    let n =
    counts_known _ _ _ _ _ _ _ _ p.1 c.batch_sound-went.ensures.count_after (by_length entry _ _ _ k.1 k.2) c.readings_taken-taken.ensures
    c.batch_sound-went.ensures.far_value in
    (n.0, n.1)

pub returns-in_err-check_with-clause-table_after : goal.returns-in_err-check_with-clause-table_after
unfolding batch batch_if
returns-in_err-check_with-clause-table_after c =
    let p = err_from_is_err_and c.from_residual.result c.from_residual.ensures.1 in
    rw (p.1, p.2, ← c.lengths_ok-fits.ensures, ← c.check_with.ensures, c.in_err-check_with.was)

pub returns-clause-table_after : goal.returns-clause-table_after
unfolding batch batch_if
returns-clause-table_after c =
    let p = with_passed _ _ _ (sym c.check_with.ensures ∙ c.in_ok-check_with.was) in
    let k = lengths_known _ _ _ _ (sym c.lengths_ok-fits.ensures ∙ p.0) in
    let n =
    counts_known _ _ _ _ _ _ _ _ p.1 c.batch_sound-went.ensures.count_after (by_length entry _ _ _ k.1 k.2) c.readings_taken-taken.ensures
    c.batch_sound-went.ensures.far_value in
    rw (← c.lengths_ok-fits.ensures, ← c.check_with.ensures, c.in_ok-check_with.was)
    (answered c.batched_of.ensures (c.counts_of-counts.ensures ∙ n.2) c.batch_sound-went.ensures.count_after)
