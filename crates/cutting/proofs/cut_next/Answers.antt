-- `cutting::cut_next` meets its contract: a row of no weight above 0, or where no edge starts, has no triangles.
-- Assumes nothing.
use mathlib.Core.Path.{sym, ◌∙◌}
use native.Mathlib.Omega.{arith}
use Rattle.cuts.proofs.VertexLaws.{fits}
use Rattle.cutting.proofs.PutLaws.{nothing_put}
use Rattle.cutting.proofs.OwnLaws.{numbered, weightless, edgeless, cut_here}
use Rattle.cutting.proofs.cut_next.Goals as goal

pub starts-requires : goal.starts-requires
starts-requires c = fits _ _ _ (numbered _ _ _ _ _ _ _ c.requires.0)

pub cut_row-requires : goal.cut_row-requires
cut_row-requires c = (c.requires.0.accepted, c.requires.1, numbered _ _ _ _ _ _ _ c.requires.0, c.requires.3, c.requires.4)

pub returns-then-starts : goal.returns-then-starts
returns-then-starts c =
    let cut = cut_here _ _ _ _ _ _ _ c.requires.0 _ c.requires.1 c.if-weights-row.true in
    record {
      puts = rw (← cut) c.cut_row.ensures.puts;
      upper_bound = c.cut_row.ensures.upper_bound;
    }

pub returns-else-starts : goal.returns-else-starts
returns-else-starts c =
    let none = edgeless _ _ _ _ _ _ _ c.requires.0 _ c.requires.1 c.if-weights-row.true _ c.requires.2 (sym c.starts.ensures ∙ c.if-starts.false) in
    record {
      puts = rw none (nothing_put _ _ _ _);
      upper_bound = omega arith;
    }

pub returns-else-weights-row : goal.returns-else-weights-row
returns-else-weights-row c =
    record {
      puts = rw (weightless _ _ _ _ _ _ _ c.requires.0 _ c.requires.1 c.if-weights-row.false) (nothing_put _ _ _ _);
      upper_bound = omega arith;
    }
