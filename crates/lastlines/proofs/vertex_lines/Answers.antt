-- `lastlines::vertex_lines` meets its contract. The loop's invariant: the vertices passed are written.
use Rattle.std.proofs.Common.{arith}
use Rattle.lastlines.proofs.LineLaws.{lines_none, lines_more, lines_all}
use Rattle.lastlines.proofs.vertex_lines.Goals as goal

pub loop-i-init : goal.loop-i-init
loop-i-init c = lines_none _ _ _ _ _

pub loop-i-preserved : goal.loop-i-preserved
loop-i-preserved c = lines_more _ _ _ _ _ _ c.loop-i.invariant c.vertex_line.ensures

pub returns : goal.returns
returns c = lines_all _ _ _ _ _ c.loop-i.invariant (omega arith)
