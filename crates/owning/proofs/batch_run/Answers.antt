-- `owning::batch_run` meets its contract: the rows are loaded, the readings fused into them, and the rows settled.
-- Assumes nothing.
use Prim.Native.Nat.{ℕ}
use native.Mathlib.Omega.{arith}
use borrow.Author.Tests.{le-leb}
use lib.ListN.{length, length-replicate}
use Rattle.table.proofs.RowLaws.{lengths_known}
use Rattle.table.specs.Table.{table}
use Rattle.table.proofs.Checking.{sound}
use Rattle.owning.proofs.Ending.{counted, settled}
use borrow.Author.Rules.{rules}
use Rattle.owning.proofs.batch_run.Goals as goal

pub own_rows-own-requires : goal.own_rows-own-requires
own_rows-own-requires c = record {
  from_le_to = (c.end_of-to.ensures.0, c.end_of-to.ensures.2, c.end_of-to.ensures.1);
  in_bounds = search rules;
}

pub load_own-requires : goal.load_own-requires
load_own-requires c =
    let k = sound c.args.settings (table c.args.rows.now.keys.now c.args.rows.now.distances.now c.args.rows.now.weights.now c.args.rows.now.count) c.requires.count_value in
    let few = c.own_rows-own.ensures.upper_bound.0 in record {
      count_value = k.lengths;
      keys_value = (k.order, rw length-replicate few, c.own_rows-own.ensures.upper_bound.1);
      own_value = simp (c.own_rows-own.auto.own_keys, length-replicate, le-leb _ _ few);
    }

pub overflow_sub-keys : goal.overflow_sub-keys
overflow_sub-keys c =
    let k = sound c.args.settings (table c.args.rows.now.keys.now c.args.rows.now.distances.now c.args.rows.now.weights.now c.args.rows.now.count) c.requires.count_value in
    let f = lengths_known (length c.args.rows.now.keys.now) (length c.args.rows.now.distances.now) (length c.args.rows.now.weights.now) c.args.rows.now.count k.lengths in
    omega (arith, f)

pub fuse_run-ran-requires : goal.fuse_run-ran-requires
fuse_run-ran-requires c =
    let k = sound c.args.settings (table c.args.rows.now.keys.now c.args.rows.now.distances.now c.args.rows.now.weights.now c.args.rows.now.count) c.requires.count_value in
    record {
      settings_value = k.settings;
      own_value = simp (
        c.own_rows-own.auto.own_keys,
        c.load_own.auto.own_distances,
        c.load_own.auto.own_weights,
        length-replicate,
        le-leb _ _ c.own_rows-own.ensures.upper_bound.0,
      );
      from_le_to = (c.end_of-to.ensures.0, c.end_of-to.ensures.2, c.end_of-to.ensures.1);
      batch_distances_len = c.requires.batch_distances_len;
      in_bounds = (rw (c.own_rows-own.auto.slots, length-replicate) (omega arith), c.own_rows-own.ensures.own_slots);
    }

pub overflow_add-total : goal.overflow_add-total
overflow_add-total c =
    let k = sound c.args.settings (table c.args.rows.now.keys.now c.args.rows.now.distances.now c.args.rows.now.weights.now c.args.rows.now.count) c.requires.count_value in
    let f = lengths_known (length c.args.rows.now.keys.now) (length c.args.rows.now.distances.now) (length c.args.rows.now.weights.now) c.args.rows.now.count k.lengths in
    omega (
      arith,
      (counted c.args.settings c.args.rows.now.keys.now c.args.rows.now.distances.now c.args.rows.now.weights.now
          c.args.rows.now.count c.requires.count_value _ _ _ _ _ c.load_own.auto.seats c.own_rows-own.auto.own_keys
          c.load_own.auto.own_distances c.load_own.auto.own_weights
          c.own_rows-own.ensures.upper_bound.0 c.own_rows-own.ensures.upper_bound.1 c.load_own.ensures _ _ _ _ _ _
          c.fuse_run-ran.ensures (omega (arith, f))).1,
      f,
    )

pub settle_own-requires : goal.settle_own-requires
settle_own-requires c =
    let k = sound c.args.settings (table c.args.rows.now.keys.now c.args.rows.now.distances.now c.args.rows.now.weights.now c.args.rows.now.count) c.requires.count_value in
    let f = lengths_known (length c.args.rows.now.keys.now) (length c.args.rows.now.distances.now) (length c.args.rows.now.weights.now) c.args.rows.now.count k.lengths in
    record {
      count_value = k.lengths;
      own_value = simp (
        c.own_rows-own.auto.own_keys,
        c.fuse_run-ran.auto.own_distances,
        c.fuse_run-ran.auto.own_weights,
        c.load_own.auto.own_distances,
        c.load_own.auto.own_weights,
        length-replicate,
        le-leb _ _ c.own_rows-own.ensures.upper_bound.0,
      );
      own_keys_value = (
        c.own_rows-own.ensures.upper_bound.1,
        omega (arith, c.load_own.auto.seats, length-replicate {A = ℕ} 4096 0, c.own_rows-own.ensures.upper_bound.0),
        c.load_own.ensures.seats,
      );
      total_value = counted c.args.settings c.args.rows.now.keys.now c.args.rows.now.distances.now c.args.rows.now.weights.now
          c.args.rows.now.count c.requires.count_value _ _ _ _ _ c.load_own.auto.seats c.own_rows-own.auto.own_keys
          c.load_own.auto.own_distances c.load_own.auto.own_weights
          c.own_rows-own.ensures.upper_bound.0 c.own_rows-own.ensures.upper_bound.1 c.load_own.ensures _ _ _ _ _ _
          c.fuse_run-ran.ensures (omega (arith, f));
    }

pub returns-clause-table_after : goal.returns-clause-table_after
returns-clause-table_after c =
    let k = sound c.args.settings (table c.args.rows.now.keys.now c.args.rows.now.distances.now c.args.rows.now.weights.now c.args.rows.now.count) c.requires.count_value in
    let f = lengths_known (length c.args.rows.now.keys.now) (length c.args.rows.now.distances.now) (length c.args.rows.now.weights.now) c.args.rows.now.count k.lengths in
    settled c.args.settings c.args.rows.now.keys.now c.args.rows.now.distances.now c.args.rows.now.weights.now
    c.args.rows.now.count c.requires.count_value _ _ _ _ _ c.load_own.auto.seats c.own_rows-own.auto.own_keys
    c.load_own.auto.own_distances c.load_own.auto.own_weights
    c.own_rows-own.ensures.upper_bound.0 c.own_rows-own.ensures.upper_bound.1 c.load_own.ensures _ _ _ _ _ _
    c.fuse_run-ran.ensures (omega (arith, f)) _ _ _
    c.settle_own.ensures
