-- `hearing::settled` meets its contract: what is left to hear says what the whole does.
use mathlib.Core.Path.{◌≡◌, ◌∙◌}
use Rattle.neighbors.specs.Neighbors.{neighbours}
use Rattle.neighbors.proofs.NeighborLaws.{cells_known}
use Rattle.marching.specs.March.{settled}
use Rattle.marching.specs.Lattice.{lattice_of}
use Rattle.hearing.proofs.Walking.{real_near, settle_more, settle_none}
use Rattle.hearing.proofs.settled.Goals as goal

pub hear-best-requires : goal.hear-best-requires
hear-best-requires c =
    let cells : c.cells-neighbour-items.result.now ≡ neighbours c.args.key = cells_known _ c.around-near.ensures c.cells-neighbour-items.ensures in
    (c.requires.0, real_near c.args.key c.requires.1 _ cells _ (rw cells at c.loop-place-test.true))

pub loop-place-preserved : goal.loop-place-preserved
loop-place-preserved c =
    let a = c.args in
    let cells : c.cells-neighbour-items.result.now ≡ neighbours a.key = cells_known _ c.around-near.ensures c.cells-neighbour-items.ensures in
    λ rs ws h.
    c.loop-place.invariant rs ws h
    ∙ settle_more (neighbours a.key) _ cells (lattice_of a.course) rs a.key _ _ _
    (rw cells at c.loop-place-test.true) (c.hear-best.ensures rs ws h)

pub returns : goal.returns
unfolding settled
returns c =
    let a = c.args in
    let cells : c.cells-neighbour-items.result.now ≡ neighbours a.key = cells_known _ c.around-near.ensures c.cells-neighbour-items.ensures in
    λ rs ws h.
    c.clamped.ensures
    ∙ rw (c.loop-place.invariant rs ws h
    ∙ settle_none (neighbours a.key) _ cells (lattice_of a.course) rs a.key _ _
    (rw cells at c.loop-place-test.false))
