-- `mesh::draw_closed` meets its contract: the edges and triangles are those of the closed surface, and there are no groups.
-- Assumes nothing.
use Rattle.mesh.proofs.ShutLaws.{drawn_closed}
use mathlib.Core.Path.{refl}
use Rattle.mesh.proofs.draw_closed.Goals as goal

pub returns : goal.returns
returns c =
    let a = c.args in
    λ fit. drawn_closed a.verdict _ _ _ _ fit _ _ _ _ _ _ c.list_closed-closed.ensures a.groups.now _ refl c.clear_from.ensures
