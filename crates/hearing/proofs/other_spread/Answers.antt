-- `hearing::other_spread` meets its contract: what is left to ask says what the whole does.
use mathlib.Core.Path.{◌≡◌, sym, ◌∙◌}
use Rattle.neighbors.specs.Neighbors.{neighbours}
use Rattle.neighbors.proofs.NeighborLaws.{cells_known}
use Rattle.hearing.specs.Hearing.{field_of}
use Rattle.hearing.proofs.Walking.{real_near, other_more, other_here, other_none}
use Rattle.hearing.proofs.other_spread.Goals as goal

pub spread_at-requires : goal.spread_at-requires
spread_at-requires c =
    let cells : c.cells-neighbour-items.result.now ≡ neighbours c.args.key = cells_known _ c.around-near.ensures c.cells-neighbour-items.ensures in
    (c.requires.0, (c.requires.1.0, real_near c.args.key c.requires.1.1 _ cells _ (rw cells at c.loop-neighbour-test.true)))

pub returns-then-spread_at : goal.returns-then-spread_at
returns-then-spread_at c =
    let a = c.args in
    let cells : c.cells-neighbour-items.result.now ≡ neighbours a.key = cells_known _ c.around-near.ensures c.cells-neighbour-items.ensures in
    λ rs ws h.
    other_here (neighbours a.key) _ cells _ (field_of a.plan.now) a.from rs _
    (rw cells at c.loop-neighbour-test.true) _ (c.spread_at.ensures rs ws h) c.if-spread_at.true
    ∙ sym (c.loop-neighbour.invariant rs ws h)

pub loop-neighbour-preserved : goal.loop-neighbour-preserved
loop-neighbour-preserved c =
    let a = c.args in
    let cells : c.cells-neighbour-items.result.now ≡ neighbours a.key = cells_known _ c.around-near.ensures c.cells-neighbour-items.ensures in
    λ rs ws h.
    c.loop-neighbour.invariant rs ws h
    ∙ other_more (neighbours a.key) _ cells _ (field_of a.plan.now) a.from rs _
    (rw cells at c.loop-neighbour-test.true) _ (c.spread_at.ensures rs ws h) c.if-spread_at.false

pub returns : goal.returns
returns c =
    let a = c.args in
    let cells : c.cells-neighbour-items.result.now ≡ neighbours a.key = cells_known _ c.around-near.ensures c.cells-neighbour-items.ensures in
    λ rs ws h.
    other_none (neighbours a.key) _ cells _ (field_of a.plan.now) a.from rs c.loop-neighbour.neighbour-index
    (rw cells at c.loop-neighbour-test.false)
    ∙ sym (c.loop-neighbour.invariant rs ws h)
