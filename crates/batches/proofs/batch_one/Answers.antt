-- `batches::batch_one` meets its contract: it ends the batch or leaves the rest to the table that it left, and tells whether it is far.
-- Assumes nothing.
use Rattle.std.specs.Prelude.{Ok}
use mathlib.Core.Path.{sym, ap, ◌∙◌}
use Prim.Native.Nat.{◌<◌}
use native.Mathlib.Nat.{add-zero}
use native.Mathlib.Omega.{arith}
use lib.ListN.{length}
use Rattle.lists.proofs.BesideLaws.{by_length}
use Rattle.batching.specs.Batches.{entry}
use Rattle.table.specs.Table.{table}
use Rattle.owning.specs.Runs.{RunLeft}
use Rattle.batching.proofs.Batching.{stops, goes_on, far_here, near_here, passes_again}
use borrow.Author.Rules.{rules}
use Rattle.batches.proofs.batch_one.Goals as goal

pub returns-in-Err-clause-table_after : goal.returns-in-Err-clause-table_after
unfolding RunLeft
returns-in-Err-clause-table_after c =
    let a = c.args in
    let t = table a.rows.now.keys.now a.rows.now.distances.now a.rows.now.weights.now a.rows.now.count in
    let ks = a.readings.now.keys.now in
    let ds = a.readings.now.distances.now in
    let cs = a.readings.now.confidences.now in
    let len = c.requires.batch_distances_len in
    let h : a.from < length ks = c.requires.from_in_bounds in (
      stops a.settings t ks ds cs a.from len.0 len.1 h _ _ c.fuse_sound.ensures.table_after _ c.in-Err.is,
      passes_again a.settings t ks ds cs a.from len.0 len.1 h _ _ c.fuse_sound.ensures.table_after c.requires.count_value,
      sym (add-zero _),
    )

pub returns-in-Ok-Far-clause-table_after : goal.returns-in-Ok-Far-clause-table_after
unfolding RunLeft
returns-in-Ok-Far-clause-table_after c =
    let a = c.args in
    let t = table a.rows.now.keys.now a.rows.now.distances.now a.rows.now.weights.now a.rows.now.count in
    let ks = a.readings.now.keys.now in
    let ds = a.readings.now.distances.now in
    let cs = a.readings.now.confidences.now in
    let len = c.requires.batch_distances_len in
    let h : a.from < length ks = c.requires.from_in_bounds in (
      (
        goes_on a.settings t ks ds cs a.from len.0 len.1 h _ _ c.fuse_sound.ensures.table_after _ c.in-Ok-Far.is,
        omega arith,
        rw (by_length entry ks ds cs len.0 len.1) (omega arith),
      ),
      passes_again a.settings t ks ds cs a.from len.0 len.1 h _ _ c.fuse_sound.ensures.table_after c.requires.count_value,
      far_here a.settings t ks ds cs a.from len.0 len.1 h _ _ c.fuse_sound.ensures.table_after c.requires.count_value (c.in-Ok-Far.is ∙ ap Ok c.in-Ok-Far.field-0-is),
    )

pub returns-in-Ok-clause-table_after : goal.returns-in-Ok-clause-table_after
unfolding RunLeft
returns-in-Ok-clause-table_after c =
    let a = c.args in
    let t = table a.rows.now.keys.now a.rows.now.distances.now a.rows.now.weights.now a.rows.now.count in
    let ks = a.readings.now.keys.now in
    let ds = a.readings.now.distances.now in
    let cs = a.readings.now.confidences.now in
    let len = c.requires.batch_distances_len in
    let h : a.from < length ks = c.requires.from_in_bounds in (
      (
        goes_on a.settings t ks ds cs a.from len.0 len.1 h _ _ c.fuse_sound.ensures.table_after _ c.in-Ok.is,
        omega arith,
        rw (by_length entry ks ds cs len.0 len.1) (omega arith),
      ),
      passes_again a.settings t ks ds cs a.from len.0 len.1 h _ _ c.fuse_sound.ensures.table_after c.requires.count_value,
      near_here a.settings t ks ds cs a.from len.0 len.1 h _ _ c.fuse_sound.ensures.table_after c.requires.count_value _ c.in-Ok.is (search rules),
    )
