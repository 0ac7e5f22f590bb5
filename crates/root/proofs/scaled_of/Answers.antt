-- `root::scaled_of` meets its contract: 23 or 24 more digits make the power of two even. Assumes nothing.
use Rattle.root.proofs.Leading.{odd_scaled, even_scaled, not_odd}
use Rattle.root.proofs.scaled_of.Goals as goal

pub returns-then-j-eq1 : goal.returns-then-j-eq1
returns-then-j-eq1 c = let l = c.lead_of-l in odd_scaled _ l.result.n l.result.j l.ensures c.if-j-eq1.true

pub returns-else-j-eq1 : goal.returns-else-j-eq1
returns-else-j-eq1 c = let l = c.lead_of-l in even_scaled _ l.result.n l.result.j l.ensures (not_odd l.result.j c.if-j-eq1.false)
