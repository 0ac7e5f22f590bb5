-- `esdf_questions::sum_slopes` meets its contract: the neighbours that are left say what all say.
-- Assumes nothing.
use Prim.Native.Nat.{◌≤◌}
use mathlib.Core.Path.{◌≡◌}
use lib.ListN.{drop}
use Rattle.neighbors.specs.Neighbors.{neighbours}
use Rattle.marched.specs.Marched.{marched_rows_of}
use Rattle.esdf_questions.specs.Gradient.{no_slopes, slopes_from}
use Rattle.esdf_questions.proofs.sum_slopes.Given as goal

abbrev pub invariant-loop-neighbour : goal.invariant-loop-neighbour
invariant-loop-neighbour l = (l.sum.count ≤ l.neighbour-index)
    × (slopes_from (marched_rows_of l.fn.field.keys.now l.fn.field.distances.now l.fn.field.count) l.key l.distance no_slopes (neighbours l.key)
    ≡ slopes_from (marched_rows_of l.fn.field.keys.now l.fn.field.distances.now l.fn.field.count) l.key l.distance l.sum (drop l.neighbour-index (neighbours l.key)))
