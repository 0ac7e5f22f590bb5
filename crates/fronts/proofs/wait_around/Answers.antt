-- `fronts::wait_around` meets its contract: what is left to do says what the whole does.
use Rattle.hearing.specs.Hearing.{seeds_of, field_of}
use Rattle.std.proofs.lemmas.Result.{err_from_is_err_and}
use mathlib.Core.Path.{◌≡◌, refl, sym, ◌∙◌}
use lib.ListN.{length}
use Rattle.neighbors.specs.Neighbors.{neighbours}
use Rattle.neighbors.proofs.NeighborLaws.{cells_known}
use Rattle.marching.proofs.Telling.{neighbours_once}
use Rattle.hearing.proofs.Walking.{near_lattice}
use Rattle.fronts.proofs.Walking.{rest_all, rest_more, rest_stop, rest_none}
use Rattle.fronts.proofs.wait_around.Goals as goal

pub loop-neighbour-init : goal.loop-neighbour-init
loop-neighbour-init c =
    let a = c.args in
    let cells : c.cells-neighbour-items.result.now ≡ neighbours c.args.key = cells_known _ c.around-near.ensures c.cells-neighbour-items.ensures in (
      refl,
      refl,
      refl,
      refl,
      rest_all a.lean _ (field_of a.plan.now) a.key a.estimate (neighbours a.key) _ cells (neighbours_once a.key) a.keys.now
          a.distances.now
          a.waiting a.estimates.now a.cells.now,
    )

pub wait-requires : goal.wait-requires
wait-requires c =
    let cells : c.cells-neighbour-items.result.now ≡ neighbours c.args.key = cells_known _ c.around-near.ensures c.cells-neighbour-items.ensures in
    let i = c.loop-neighbour.invariant in
    let p = c.requires in record {
      lent = (p.lent.0, (i.1 ∙ p.lent.1.0 ∙ sym i.0, i.2 ∙ p.lent.1.1 ∙ sym i.3));
      key_value = (near_lattice c.args.key p.key_value.0 _ cells _ (rw cells at c.loop-neighbour-test.true), p.key_value.1);
    }

pub returns-in_err-held : goal.returns-in_err-held
returns-in_err-held c =
    let cells : c.cells-neighbour-items.result.now ≡ neighbours c.args.key = cells_known _ c.around-near.ensures c.cells-neighbour-items.ensures in
    let d = c.wait in
    let a = c.args in
    let p = err_from_is_err_and c.from_residual.result c.from_residual.ensures.1 in
    λ s h told room.
    rw (p.1, p.2)
    (rest_stop a.lean (seeds_of a.plan.now)
    (field_of a.plan.now) a.key a.estimate (neighbours a.key) _ cells (neighbours_once a.key) a.keys.now a.distances.now
    a.waiting
    a.estimates.now a.cells.now
    c.loop-neighbour.neighbour-index c.loop-neighbour.keys c.loop-neighbour.distances c.loop-neighbour.held
    c.loop-neighbour.estimates c.loop-neighbour.cells c.loop-neighbour.invariant.4 c.loop-neighbour.invariant.3
    (rw cells at c.loop-neighbour-test.true) d.result
    d.new.keys d.new.distances
    d.new.estimates d.new.cells d.ensures _ c.in_err-held.was s h told room)

pub loop-neighbour-preserved : goal.loop-neighbour-preserved
loop-neighbour-preserved c =
    let cells : c.cells-neighbour-items.result.now ≡ neighbours c.args.key = cells_known _ c.around-near.ensures c.cells-neighbour-items.ensures in
    let i = c.loop-neighbour.invariant in
    let k = c.wait.auto in
    let d = c.wait in
    let a = c.args in (
      ◌∙◌ {b = length c.loop-neighbour.keys} k.keys i.0,
      ◌∙◌ {b = length c.loop-neighbour.distances} k.distances i.1,
      ◌∙◌ {b = length c.loop-neighbour.estimates} k.estimates i.2,
      ◌∙◌ {b = length c.loop-neighbour.cells} k.cells i.3,
      rest_more a.lean (seeds_of a.plan.now)
          (field_of a.plan.now) a.key a.estimate (neighbours a.key) _ cells (neighbours_once a.key) a.keys.now
          a.distances.now a.waiting
          a.estimates.now a.cells.now
          c.loop-neighbour.neighbour-index c.loop-neighbour.keys c.loop-neighbour.distances c.loop-neighbour.held
          c.loop-neighbour.estimates c.loop-neighbour.cells c.loop-neighbour.invariant.4 i.3
          (rw cells at c.loop-neighbour-test.true) d.result
          d.new.keys d.new.distances
          d.new.estimates d.new.cells d.ensures k.keys _
          c.in_ok-held.was,
    )

pub returns : goal.returns
returns c =
    let cells : c.cells-neighbour-items.result.now ≡ neighbours c.args.key = cells_known _ c.around-near.ensures c.cells-neighbour-items.ensures in
    let a = c.args in
    rest_none a.lean (seeds_of a.plan.now)
    (field_of a.plan.now) a.key a.estimate (neighbours a.key) _ cells (neighbours_once a.key) a.keys.now a.distances.now
    a.waiting
    a.estimates.now a.cells.now
    c.loop-neighbour.neighbour-index c.loop-neighbour.keys c.loop-neighbour.distances c.loop-neighbour.held
    c.loop-neighbour.estimates c.loop-neighbour.cells c.loop-neighbour.invariant.4 (rw cells at c.loop-neighbour-test.false)
