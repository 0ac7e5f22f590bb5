-- `edges::crosses_at` meets its contract: the test is that of the surface.
-- Assumes nothing.
use Rattle.edges.proofs.crosses_at.Goals as goal

pub returns-in-Open : goal.returns-in-Open
returns-in-Open c = rw c.in-Open.is c.crosses.ensures

pub returns-in-Closed : goal.returns-in-Closed
returns-in-Closed c = rw c.in-Closed.is c.crosses_scan.ensures
