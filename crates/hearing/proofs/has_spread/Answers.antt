-- `hearing::has_spread` meets its contract, by its test.
-- Assumes nothing.
use Rattle.hearing.proofs.Seeding.{spread_on, spread_seed}
use Rattle.hearing.proofs.has_spread.Goals as goal

pub returns-then-spreads : goal.returns-then-spreads
returns-then-spreads c = spread_on _ _ _ _ _ c.onward.ensures _ c.spreads.ensures c.if-spreads.true

pub returns : goal.returns
returns c = spread_seed _ _ _ _ _ c.onward.ensures _ c.spreads.ensures c.if-spreads.false _ c.has_seed.ensures
