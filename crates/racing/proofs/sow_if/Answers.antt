-- `racing::sow_if` meets its contract, by its test; the marks of a seed have a place once the march has been lightened.
-- Assumes nothing.
use Rattle.std.proofs.Common.{ap, not}
use Rattle.std.proofs.lemmas.Result.{err_from_is_err_and}
use mathlib.Core.Path.{sym, ◌∙◌}
use borrow.Author.Tests.{not-false, not-true}
use Rattle.table.specs.Table.{row}
use Rattle.racing.proofs.Marching.{sow_if_not}
use Rattle.racing.proofs.Lightening.{sown_goes}
use Rattle.racing.proofs.sow_if.Goals as goal

pub returns-then-not-is_seed : goal.returns-then-not-is_seed
returns-then-not-is_seed c = λ s h new told. sow_if_not _ _ _ _ _ s (sym c.is_seed.ensures ∙ not-true _ (ap not c.if-not-is_seed.true)) _ _ _ _ _ _ h

pub returns-in_err-rows : goal.returns-in_err-rows
returns-in_err-rows c =
    let a = c.args in
    let p = err_from_is_err_and c.from_residual.result c.from_residual.ensures.1 in
    let l = c.lighten-lean in
    let d = c.sow in
    λ s h new told.
    let seeds = sym c.is_seed.ensures ∙ not-false _ (ap not c.if-not-is_seed.false) in
    sown_goes a.at.lean a.at.rows a.at.waiting a.keys.now a.distances.now a.estimates.now a.cells.now l.result l.ensures.kind
    l.new.keys l.new.distances l.ensures.lists l.auto.keys s h a.plan.now.threshold (row a.key a.distance a.weight) seeds d.result
    d.new.keys d.new.distances d.new.estimates
    d.new.cells
    d.auto.keys (λ x room. d.ensures s x new (told seeds) room) _ (rw (p.1, p.2, c.in_err-rows.was))

pub returns : goal.returns
returns c =
    let a = c.args in
    let l = c.lighten-lean in
    let d = c.sow in
    λ s h new told.
    let seeds = sym c.is_seed.ensures ∙ not-false _ (ap not c.if-not-is_seed.false) in
    sown_goes a.at.lean a.at.rows a.at.waiting a.keys.now a.distances.now a.estimates.now a.cells.now l.result l.ensures.kind
    l.new.keys l.new.distances l.ensures.lists l.auto.keys s h a.plan.now.threshold (row a.key a.distance a.weight) seeds d.result
    d.new.keys d.new.distances d.new.estimates
    d.new.cells
    d.auto.keys (λ x room. d.ensures s x new (told seeds) room) _ (rw c.in_ok-rows.was)
