-- `esdf::march_checked` meets its contract: a verdict that refuses is the answer, another lets the march begin.
-- Assumes nothing.
use Rattle.std.proofs.Common.{sym, ◌∙◌}
use Rattle.std.proofs.lemmas.Result.{err_from_is_err_and}
use Rattle.esdf.proofs.Computing.{may_march, refused_first, passed_first}
use Rattle.esdf.proofs.march_checked.Goals as goal

pub march-requires : goal.march-requires
march-requires c =
    let a = c.args in
    let r = a.rows.now in
    may_march a.settings r.keys.now r.distances.now r.weights.now r.count a.threshold a.fit a.keys.now a.distances.now a.estimates.now a.cells.now
    c.requires (sym c.check.ensures ∙ c.in_ok-check.was)

pub returns-in_err-check : goal.returns-in_err-check
returns-in_err-check c =
    let p = err_from_is_err_and c.from_residual.result c.from_residual.ensures.1 in
    rw (p.1, p.2) (refused_first _ _ _ _ _ _ (sym c.check.ensures ∙ c.in_err-check.was))

pub returns-in_err-rows : goal.returns-in_err-rows
returns-in_err-rows c =
    let d = c.march in
    let p = err_from_is_err_and c.from_residual-in_err-rows.result c.from_residual-in_err-rows.ensures.1 in
    let marched = passed_first _ _ d.new.keys d.new.distances d.new.estimates d.new.cells d.result (sym c.check.ensures ∙ c.in_ok-check.was) d.ensures in
    rw (p.1, p.2) (rw c.in_err-rows.was at marched)

pub returns : goal.returns
returns c =
    let d = c.march in
    let marched = passed_first _ _ d.new.keys d.new.distances d.new.estimates d.new.cells d.result (sym c.check.ensures ∙ c.in_ok-check.was) d.ensures in
    rw c.in_ok-rows.was at marched
