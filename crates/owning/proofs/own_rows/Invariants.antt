-- `owning::own_rows` meets its contract: the keys are copied, sorted, and those that rise are taken.
-- Assumes nothing.
use Prim.Native.Nat.{ℕ, ◌+◌, ◌≤◌, ◌<◌}
use mathlib.Core.Path.{◌≡◌}
use mathlib.Core.List.{List}
use lib.ListN.{length, get_or}
use Rattle.owning.proofs.own_rows.Given as goal

-- the first i keys from a place on are copied, with 0, 1, 2 and so on beside them
abbrev pub Copied : List ℕ → ℕ → ℕ → List ℕ → List ℕ → Type 0
Copied ks from i sorted places = (j : ℕ) → j < i → (get_or sorted j 0 ≡ get_or ks (from + j) 0) × (get_or places j 0 ≡ j)

abbrev pub invariant-loop-i : goal.invariant-loop-i
invariant-loop-i l = (l.i ≤ l.n) × (length l.sorted ≡ 4096) × (length l.places ≡ 4096) × Copied l.batch_keys l.from l.i l.sorted l.places
