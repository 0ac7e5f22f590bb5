-- What a passed check tells the work behind it, and what the list holds after it.
-- Assumes nothing.
use Rattle.std.specs.Prelude.{Ok}
use Prim.Native.Nat.{ℕ}
use mathlib.Core.Path.{◌≡◌}
use mathlib.Core.List.{List}
use lib.Ieee.{Float}
use lib.ListN.{length}
use Rattle.table.specs.declared.Settings.{Settings}
use Rattle.table.specs.Table.{table, table_check}
use Rattle.table.proofs.Checking.{sound}
use Rattle.table.proofs.RowLaws.{lengths_known}
use Rattle.tsdf_questions.specs.Steps.{Accepted}

-- ---- what the tests tell

pub accepted : (s : Settings) (ks : List ℕ) (ds ws : List Float) (n : ℕ) → table_check s (table ks ds ws n) ≡ (Ok tt) → Accepted (table ks ds ws n)
accepted s ks ds ws n e =
    let k = sound s (table ks ds ws n) e in
    let l = lengths_known (length ks) (length ds) (length ws) n k.lengths in
    record { fits = l.0; distances = l.1; weights = l.2; small = l.3; ascends = k.order }
