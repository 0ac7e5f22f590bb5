-- `racing::sow_all` meets its contract: what is left to sow says what the whole does.
use Rattle.hearing.specs.Hearing.{seeds_of, field_of}
use Rattle.table.specs.Read.{rows_in}
use Rattle.std.proofs.lemmas.Result.{err_from_is_err_and}
use mathlib.Core.Path.{refl, ◌∙◌}
use mathlib.Core.Bool.{false}
use native.Mathlib.Omega.{arith}
use lib.ListN.{length, get_or}
use lib.Ieee.{nan}
use Rattle.table.specs.Table.{row}
use Rattle.table.proofs.RowLaws.{row_at_lem}
use Rattle.marching.proofs.Facts.{back}
use Rattle.fronts.specs.Fronts.{rooms_of}
use Rattle.racing.proofs.Marching.{rows_ascend, rows_past, seeds_are, sow_start, sow_stop, sow_more, sow_finish}
use Rattle.racing.proofs.Finishing.{blank_ready}
use borrow.Author.Rules.{rules}
use Rattle.racing.proofs.sow_all.Goals as goal

pub loop-i-init : goal.loop-i-init
loop-i-init c =
    let a = c.args in
    let p = c.requires in (
      search rules,
      refl,
      refl,
      refl,
      refl,
      sow_start false _ (field_of a.plan.now) a.plan.now.threshold (rooms_of a.keys.now a.cells.now)
          (rows_in a.plan.now.fused) a.keys.now
          a.distances.now a.estimates.now a.cells.now (rows_ascend _ _ _ _ p.0.lent) (seeds_are a.plan.now.threshold _ _ _ _ p.0.lent)
          (blank_ready false _ _ _ _ p.1),
    )

pub returns-in_err-now : goal.returns-in_err-now
returns-in_err-now c =
    let a = c.args in
    let t = c.requires.0.lent in
    let l = c.loop-i in
    let d = c.sow_if in
    let here =
    row_at_lem a.plan.now.fused.keys.now a.plan.now.fused.distances.now a.plan.now.fused.weights.now a.plan.now.fused.count l.i t.distances t.weights
    c.loop-i-test.true t.fits in
    let p = err_from_is_err_and c.from_residual.result c.from_residual.ensures.1 in
    rw (p.1, p.2)
    (sow_stop l.now.lean (seeds_of a.plan.now)
    (field_of a.plan.now) back a.plan.now.threshold (rooms_of a.keys.now a.cells.now)
    (rows_in a.plan.now.fused) l.i l.now.rows l.keys l.distances l.now.waiting
    l.estimates l.cells l.invariant.5
    (row (get_or a.plan.now.fused.keys.now l.i 0) (get_or a.plan.now.fused.distances.now l.i nan) (get_or a.plan.now.fused.weights.now l.i nan))
    here l.invariant.1 l.invariant.4 d.result d.new.keys
    d.new.distances d.new.estimates
    d.new.cells
    d.ensures _ c.in_err-now.was)

pub loop-i-preserved : goal.loop-i-preserved
loop-i-preserved c =
    let a = c.args in
    let t = c.requires.0.lent in
    let l = c.loop-i in
    let d = c.sow_if in
    let here =
    row_at_lem a.plan.now.fused.keys.now a.plan.now.fused.distances.now a.plan.now.fused.weights.now a.plan.now.fused.count l.i t.distances t.weights
    c.loop-i-test.true t.fits in
    let k = d.auto in
    let i = l.invariant in (
      omega (arith, c.loop-i-test.true),
      ◌∙◌ {b = length l.keys} k.keys i.1,
      ◌∙◌ {b = length l.distances} k.distances i.2,
      ◌∙◌ {b = length l.estimates} k.estimates i.3,
      ◌∙◌ {b = length l.cells} k.cells i.4,
      sow_more l.now.lean (seeds_of a.plan.now)
          (field_of a.plan.now) back a.plan.now.threshold (rooms_of a.keys.now a.cells.now)
          (rows_in a.plan.now.fused) l.i l.now.rows l.keys l.distances l.now.waiting
          l.estimates l.cells l.invariant.5
          (row (get_or a.plan.now.fused.keys.now l.i 0) (get_or a.plan.now.fused.distances.now l.i nan) (get_or a.plan.now.fused.weights.now l.i nan))
          here i.1 i.4 d.result d.new.keys
          d.new.distances d.new.estimates
          d.new.cells
          d.ensures _ c.in_ok-now.was,
    )

pub returns : goal.returns
returns c =
    let a = c.args in
    let l = c.loop-i in
    sow_finish l.now.lean (seeds_of a.plan.now)
    (field_of a.plan.now) back a.plan.now.threshold (rooms_of a.keys.now a.cells.now)
    (rows_in a.plan.now.fused) l.i l.now.rows l.keys l.distances l.now.waiting
    l.estimates l.cells l.invariant.5 (rows_past a.plan.now.fused.keys.now a.plan.now.fused.distances.now a.plan.now.fused.weights.now a.plan.now.fused.count l.i
    c.loop-i-test.false)
