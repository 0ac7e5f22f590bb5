-- `racing::take_next` meets its contract: the marks of a taking have a place once the march has been lightened.
-- Assumes nothing.
use Rattle.std.proofs.lemmas.Result.{err_from_is_err_and}
use Rattle.racing.proofs.Lightening.{taken_goes}
use Rattle.racing.proofs.take_next.Goals as goal

pub returns-in_err-rows : goal.returns-in_err-rows
returns-in_err-rows c =
    let a = c.args in
    let p = err_from_is_err_and c.from_residual.result c.from_residual.ensures.1 in
    let l = c.lighten-lean in
    let d = c.take in
    λ s h told.
    taken_goes a.at.lean a.at.rows a.at.waiting a.keys.now a.distances.now a.estimates.now a.cells.now l.result l.ensures.kind
    l.new.keys l.new.distances l.ensures.lists l.auto.keys s h a.plan.now.course c.requires.waiting_nonzero.0 d.result
    d.new.keys d.new.distances d.new.estimates
    d.new.cells
    d.auto.keys (λ x room. d.ensures s x told room) _ (rw (p.1, p.2, c.in_err-rows.was))

pub returns : goal.returns
returns c =
    let a = c.args in
    let l = c.lighten-lean in
    let d = c.take in
    λ s h told.
    taken_goes a.at.lean a.at.rows a.at.waiting a.keys.now a.distances.now a.estimates.now a.cells.now l.result l.ensures.kind
    l.new.keys l.new.distances l.ensures.lists l.auto.keys s h a.plan.now.course c.requires.waiting_nonzero.0 d.result
    d.new.keys d.new.distances d.new.estimates
    d.new.cells
    d.auto.keys (λ x room. d.ensures s x told room) _ (rw c.in_ok-rows.was)
