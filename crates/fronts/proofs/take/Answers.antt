-- `fronts::take` meets its contract: a stored cell is skipped, another is settled.
-- Assumes nothing.
use Rattle.hearing.specs.Hearing.{seeds_of, field_of}
use mathlib.Core.Path.{sym, ◌∙◌}
use Rattle.hearing.proofs.Walking.{real_key}
use Rattle.fronts.proofs.Stepping.{take_skips, take_settles}
use Rattle.fronts.proofs.take.Goals as goal

pub known-requires : goal.known-requires
known-requires c = (c.requires.lent.1.0, real_key _ c.requires.waiting_nonzero.1.1.1)

pub returns-then-is_finite : goal.returns-then-is_finite
returns-then-is_finite c =
    let a = c.args in
    let p = c.pop in
    λ s h told room.
    take_skips a.lean (seeds_of a.plan.now)
    (field_of a.plan.now) s a.count a.keys.now a.distances.now a.waiting a.estimates.now a.cells.now h c.requires.waiting_nonzero.0
    p.new.estimates p.new.cells p.ensures p.auto.cells c.known.result c.known.ensures
    (sym c.is_finite.ensures ∙ c.if-is_finite.true)

pub returns : goal.returns
returns c =
    let a = c.args in
    let p = c.pop in
    let d = c.settle in
    λ s h told room.
    take_settles a.lean (seeds_of a.plan.now)
    (field_of a.plan.now) s a.count a.keys.now a.distances.now a.waiting a.estimates.now a.cells.now h c.requires.waiting_nonzero.0
    p.new.estimates p.new.cells p.ensures p.auto.cells c.known.result c.known.ensures
    (sym c.is_finite.ensures ∙ c.if-is_finite.false) told room d.result
    d.new.keys d.new.distances
    d.new.estimates d.new.cells d.ensures
