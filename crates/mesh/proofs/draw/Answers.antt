-- `mesh::draw` meets its contract: each surface is drawn by its own function.
-- Assumes nothing.
use Rattle.mesh.proofs.ShutLaws.{drawn_as}
use Rattle.mesh.proofs.draw.Goals as goal

pub returns-in-Open : goal.returns-in-Open
returns-in-Open c =
    let told = c.in-Open.is in
    λ fit. drawn_as _ _ _ _ _ _ _ _ _ _ _ _ _ told (c.draw_open.ensures fit)

pub returns-in-Closed : goal.returns-in-Closed
returns-in-Closed c =
    let told = c.in-Closed.is in
    λ fit. drawn_as _ _ _ _ _ _ _ _ _ _ _ _ _ told (c.draw_closed.ensures fit)
