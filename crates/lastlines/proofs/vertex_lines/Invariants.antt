-- `lastlines::vertex_lines` meets its contract. The loop's invariant: the vertices passed are written.
-- Assumes nothing.
use mathlib.Core.Path.{◌≡◌}
use lib.Seq.{sets}
use Rattle.lastlines.specs.Lastcheck.{vertex_lines}
use Rattle.lastlines.proofs.vertex_lines.Given as goal

abbrev pub invariant-loop-i : goal.invariant-loop-i
invariant-loop-i l = l.out ≡ sets l.initial.out l.at (vertex_lines l.i 0 l.xs l.ys l.zs)
