-- `gathering::value` meets its contract: a seat over a row has as many rows below as its place says.
-- Assumes nothing.
use mathlib.Core.Path.{◌∙◌}
use Rattle.gathering.proofs.Filling.{value_over, value_before}
use Rattle.gathering.proofs.value.Goals as goal

pub returns-then-place-first_above : goal.returns-then-place-first_above
returns-then-place-first_above g c =
    c.index-column-place.is
    ∙ value_over c.args.column.now c.args.absent c.args.seat c.rows_below-place.result
    c.rows_below-place.ensures c.index-column-place.result (rw (← c.first_above.ensures) c.if-place-first_above.true) c.requires

pub returns : goal.returns
returns g c =
    value_before c.args.column.now c.args.absent c.args.seat c.rows_below-place.result
    c.rows_below-place.ensures (rw (← c.first_above.ensures) c.if-place-first_above.false)
