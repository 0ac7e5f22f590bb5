-- `racing::march` meets its contract: seeds, takings, and the rows sorted.
-- Assumes nothing.
use Rattle.table.specs.Read.{rows_in}
use Rattle.std.proofs.lemmas.Result.{err_from_is_err_and}
use mathlib.Core.Path.{sym, ◌∙◌}
use lib.ListN.{length}
use Rattle.floats.specs.Floats.{zero32}
use Rattle.racing.proofs.Marching.{rows_ascend, rows_lattice}
use Rattle.racing.proofs.Finishing.{blank_long, march_stopped, sown_all, march_halted, march_done}
use Rattle.racing.proofs.march.Goals as goal

pub take_all-requires : goal.take_all-requires
take_all-requires c =
    let a = c.args in
    let d = c.sow_all in
    let x = sown_all a.plan.now.course a.plan.now.threshold (rows_in a.plan.now.fused)
    a.keys.now
    a.cells.now d.result d.new.keys
    d.new.distances d.new.estimates
    d.new.cells d.ensures
    (rows_ascend _ _ _ _ c.requires.0.0.lent)
    d.auto.keys d.auto.cells _ c.in_ok-sown.was in
    record {
      tabled = c.requires.0;
      sown = (x.0, x.1.1);
    }

pub sort_rows-requires : goal.sort_rows-requires
sort_rows-requires c =
    let a = c.args in
    let p = c.requires.1 in
    let d = c.sow_all.new in
    let k = c.sow_all.auto in
    let m = c.take_all.auto in
    ◌∙◌ {b = length d.distances} m.distances
    (◌∙◌ {b = length a.distances.now} k.distances
    (◌∙◌ {b = length a.keys.now} (blank_long zero32 (length a.keys.now) a.distances.now p.distances)
    (◌∙◌ {b = length d.keys} (sym k.keys)
    (sym {b = length d.keys} m.keys))))

pub returns-in_err-sown : goal.returns-in_err-sown
returns-in_err-sown c =
    let a = c.args in
    let d = c.sow_all in
    let p = err_from_is_err_and c.from_residual.result c.from_residual.ensures.1 in
    rw (p.1, p.2)
    (march_stopped a.plan.now.course a.plan.now.threshold (rows_in a.plan.now.fused)
    a.keys.now
    a.cells.now d.result d.new.keys
    d.new.distances d.new.estimates
    d.new.cells d.ensures _ c.in_err-sown.was _ _ _ _)

pub returns-in_err-answer : goal.returns-in_err-answer
returns-in_err-answer c =
    let a = c.args in
    let d = c.sow_all in
    let m = c.take_all in
    let p = err_from_is_err_and c.from_residual-in_err-answer.result c.from_residual-in_err-answer.ensures.1 in
    rw (p.1, p.2)
    (march_halted a.plan.now.course a.plan.now.threshold (rows_in a.plan.now.fused)
    a.keys.now
    a.cells.now d.result d.new.keys
    d.new.distances d.new.estimates
    d.new.cells d.ensures
    (rows_ascend _ _ _ _ c.requires.0.0.lent)
    d.auto.keys d.auto.cells _ c.in_ok-sown.was m.result m.new.keys
    m.new.distances m.new.estimates
    m.new.cells m.ensures _ c.in_err-answer.was)

pub returns : goal.returns
returns c =
    let a = c.args in
    let d = c.sow_all in
    let m = c.take_all in
    march_done a.plan.now.course a.plan.now.threshold (rows_in a.plan.now.fused)
    a.keys.now
    a.cells.now d.result d.new.keys
    d.new.distances d.new.estimates
    d.new.cells d.ensures
    (rows_ascend _ _ _ _ c.requires.0.0.lent)
    d.auto.keys d.auto.cells _ c.in_ok-sown.was m.result m.new.keys
    m.new.distances m.new.estimates
    m.new.cells m.ensures
    (rows_lattice _ _ _ _ c.requires.0.0) _ c.in_ok-answer.was _ _ _
    (c.unlabel.auto.keys ∙ c.sort_rows.auto.keys) c.sort_rows.ensures c.unlabel.ensures
