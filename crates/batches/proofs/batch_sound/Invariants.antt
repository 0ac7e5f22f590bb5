-- `batches::batch_sound` meets its contract: what is left of the batch ends as the whole does, and the far readings before it are counted.
-- Assumes nothing.
use Rattle.std.specs.Prelude.{Ok}
use mathlib.Core.Path.{◌≡◌}
use Prim.Native.Nat.{◌≤◌, ◌-◌}
use lib.ListN.{length, drop}
use Rattle.table.specs.Table.{table_check}
use Rattle.table.specs.Read.{same_lists, table_in}
use Rattle.batching.specs.Batches.{batch_from}
use Rattle.batching.specs.Read.{entries_in}
use Rattle.batching.specs.Steps.{far_up_to}
use Rattle.batches.proofs.batch_sound.Given as goal

abbrev pub invariant-loop-i : goal.invariant-loop-i
invariant-loop-i l = (l.i ≤ length l.readings.keys.now)
    × (table_check l.settings (table_in l.rows) ≡ (Ok tt))
    × (batch_from l.settings 0 (table_in l.initial.rows)
    (entries_in l.readings)
    ≡ batch_from l.settings l.i (table_in l.rows)
    (drop l.i (entries_in l.readings)))
    × same_lists l.initial.rows l.rows
    × (l.far ≡ far_up_to l.settings (entries_in l.readings) l.i)

abbrev pub decreases-loop-i : goal.decreases-loop-i
decreases-loop-i l = length l.readings.keys.now - l.i
