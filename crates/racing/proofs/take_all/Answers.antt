-- `racing::take_all` meets its contract: what is left to take says what the whole does.
use Rattle.hearing.specs.Hearing.{seeds_of, field_of}
use Rattle.std.proofs.lemmas.Result.{err_from_is_err_and}
use mathlib.Core.Path.{refl, sym, ◌∙◌}
use native.Mathlib.Omega.{arith}
use lib.ListN.{length}
use Rattle.neighbors.proofs.NeighborLaws.{at_most_14}
use Rattle.marching.proofs.Facts.{back}
use Rattle.fronts.specs.Fronts.{rooms_of}
use Rattle.racing.specs.Racing.{Emptied}
use Rattle.racing.proofs.Marching.{seeds_are, take_start, take_few, take_crowded, take_stop, take_more, take_finish, first_on_lattice}
use Rattle.racing.proofs.take_all.Goals as goal

pub loop-now-init : goal.loop-now-init
loop-now-init c =
    let a = c.args in
    let p = c.requires in (
      refl,
      refl,
      refl,
      refl,
      λ s h.
          take_start a.at.lean _ (field_of a.plan.now) back _ (seeds_are a.plan.now.threshold _ _ _ _ p.tabled.0.lent) s a.at.rows a.keys.now
          a.distances.now
          a.at.waiting a.estimates.now a.cells.now h,
    )

pub surely_full-requires : goal.surely_full-requires
surely_full-requires c =
    let a = c.args in
    let p = c.requires in
    let l = c.loop-now in
    let at = l.invariant.4 p.sown.0 p.sown.1 in
    let keys-fit = c.well_formed.1.1.0.1 in
    let cells_fit = c.well_formed.1.1.1.1.1.0.1 in
    let taken = take_few l.now.lean (seeds_of a.plan.now)
    (field_of a.plan.now) back (rooms_of a.keys.now a.cells.now) _ l.takings l.now.rows
    l.keys l.distances l.now.waiting l.estimates l.cells (l.invariant.4 p.sown.0 p.sown.1) in (
      omega (arith, keys-fit, l.invariant.0),
      omega (arith, at.ready.held.count, at.sound.rows_fit, l.invariant.0),
      omega (arith, cells_fit, at.ready.held.front.heap.fits, l.invariant.3),
      omega (arith, taken, l.invariant.0),
    )

pub returns-then-surely_full : goal.returns-then-surely_full
unfolding Emptied
returns-then-surely_full c =
    let a = c.args in
    let l = c.loop-now in
    λ s h.
    take_crowded l.now.lean (seeds_of a.plan.now)
    (field_of a.plan.now) back (rooms_of a.keys.now a.cells.now) _ l.takings l.now.rows
    l.keys l.distances l.now.waiting l.estimates l.cells (l.invariant.4 s h)
    l.invariant.0 l.invariant.3 at_most_14 (sym c.surely_full.ensures ∙ c.if-surely_full.true)

pub take_next-requires-clause-waiting_nonzero : goal.take_next-requires-clause-waiting_nonzero
take_next-requires-clause-waiting_nonzero c =
    let p = c.requires in
    let h = (c.loop-now.invariant.4 p.sown.0 p.sown.1).ready.held in
    let l = c.loop-now-test.true in
    (l, (h.front.heap.fits, (p.tabled.1, first_on_lattice _ _ _ _ _ _ _ _ h l)))

pub returns-in_err-now : goal.returns-in_err-now
unfolding Emptied
returns-in_err-now c =
    let a = c.args in
    let l = c.loop-now in
    let d = c.take_next in
    let p = err_from_is_err_and c.from_residual.result c.from_residual.ensures.1 in
    λ s h.
    rw (p.1, p.2)
    (take_stop l.now.lean (seeds_of a.plan.now)
    (field_of a.plan.now) back (rooms_of a.keys.now a.cells.now) _ l.takings l.now.rows
    l.keys l.distances l.now.waiting l.estimates l.cells (l.invariant.4 s h)
    l.invariant.0 l.invariant.3 c.loop-now-test.true d.result d.new.keys
    d.new.distances d.new.estimates
    d.new.cells d.ensures _ c.in_err-now.was)

pub overflow_add-takings : goal.overflow_add-takings
overflow_add-takings c =
    let a = c.args in
    let p = c.requires in
    let l = c.loop-now in
    omega (
      arith,
      c.well_formed.1.1.0.1,
      take_few l.now.lean (seeds_of a.plan.now)
          (field_of a.plan.now) back (rooms_of a.keys.now a.cells.now) _ l.takings l.now.rows
          l.keys l.distances l.now.waiting l.estimates l.cells (l.invariant.4 p.sown.0 p.sown.1),
    )

pub loop-now-smaller : goal.loop-now-smaller
loop-now-smaller c =
    let a = c.args in
    let p = c.requires in
    let l = c.loop-now in
    omega (
      arith,
      c.well_formed.1.1.0.1,
      take_few l.now.lean (seeds_of a.plan.now)
          (field_of a.plan.now) back (rooms_of a.keys.now a.cells.now) _ l.takings l.now.rows
          l.keys l.distances l.now.waiting l.estimates l.cells (l.invariant.4 p.sown.0 p.sown.1),
    )

pub loop-now-preserved : goal.loop-now-preserved
loop-now-preserved c =
    let a = c.args in
    let l = c.loop-now in
    let d = c.take_next in
    let k = d.auto in
    let i = l.invariant in (
      ◌∙◌ {b = length l.keys} k.keys i.0,
      ◌∙◌ {b = length l.distances} k.distances i.1,
      ◌∙◌ {b = length l.estimates} k.estimates i.2,
      ◌∙◌ {b = length l.cells} k.cells i.3,
      λ s h.
          take_more l.now.lean (seeds_of a.plan.now)
          (field_of a.plan.now) back (rooms_of a.keys.now a.cells.now) _ l.takings l.now.rows
          l.keys l.distances l.now.waiting l.estimates l.cells (i.4 s h)
          i.0 i.3 c.loop-now-test.true d.result d.new.keys
          d.new.distances d.new.estimates
          d.new.cells d.ensures _ c.in_ok-now.was,
    )

pub returns : goal.returns
returns c =
    let a = c.args in
    let l = c.loop-now in
    λ s h.
    take_finish l.now.lean (seeds_of a.plan.now)
    (field_of a.plan.now) back (rooms_of a.keys.now a.cells.now) _ l.takings l.now.rows
    l.keys l.distances l.now.waiting l.estimates l.cells (l.invariant.4 s h) l.invariant.0 c.loop-now-test.false
