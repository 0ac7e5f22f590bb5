-- `fronts::spread` meets its contract, by its test.
-- Assumes nothing.
use Rattle.hearing.specs.Hearing.{seeds_of, field_of}
use mathlib.Core.Path.{sym, ◌∙◌}
use Rattle.marching.specs.March.{marched_row}
use Rattle.fronts.proofs.Stepping.{number_le, spread_waits, spread_stays}
use Rattle.fronts.proofs.spread.Goals as goal

pub wait_around-requires-clause-key_value : goal.wait_around-requires-clause-key_value
wait_around-requires-clause-key_value c = (c.requires.key_value, number_le _ _ (sym c.spreads.ensures ∙ c.if-spreads.true))

pub returns-then-spreads : goal.returns-then-spreads
returns-then-spreads c =
    let a = c.args in
    let d = c.wait_around in
    spread_waits a.lean (seeds_of a.plan.now)
    (field_of a.plan.now) (marched_row a.key a.distance) a.keys.now a.distances.now a.waiting a.estimates.now a.cells.now
    c.onward-estimate.result c.onward-estimate.ensures c.spreads.result c.spreads.ensures
    c.if-spreads.true d.result d.new.keys d.new.distances
    d.new.estimates d.new.cells d.ensures

pub returns-else-spreads : goal.returns-else-spreads
returns-else-spreads c =
    let a = c.args in
    spread_stays a.lean (seeds_of a.plan.now)
    (field_of a.plan.now) (marched_row a.key a.distance) a.keys.now a.distances.now a.waiting a.estimates.now a.cells.now
    c.onward-estimate.result c.onward-estimate.ensures c.spreads.result c.spreads.ensures c.if-spreads.false
