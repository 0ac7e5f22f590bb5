-- `neighbors::lower_parts` meets its contract: offset by offset, in order.
-- Assumes nothing.
use native.Mathlib.Omega.{arith}
use Rattle.neighbors.specs.Neighbors.{offsets}
use Rattle.neighbors.specs.Steps.{low_of}
use Rattle.neighbors.proofs.lower_parts.Goals as goal

pub join-requires-13 : goal.join-requires-13
join-requires-13 c = omega (arith, c.steps_along-z.ensures.narrow, c.steps_along-y.ensures.narrow, c.steps_along-x.ensures.narrow)

pub join-requires-14 : goal.join-requires-14
join-requires-14 c = omega (arith, c.steps_along-z.ensures.narrow, c.steps_along-y.ensures.narrow, c.steps_along-x.ensures.narrow)

pub returns : goal.returns
unfolding offsets low_of
returns c =
    rw (
      c.join-14.ensures,
      c.join-13.ensures,
      c.join-12.ensures,
      c.join-11.ensures,
      c.join-10.ensures,
      c.join-9.ensures,
      c.join-8.ensures,
      c.join-7.ensures,
      c.join-6.ensures,
      c.join-5.ensures,
      c.join-4.ensures,
      c.join-3.ensures,
      c.join-2.ensures,
      c.join.ensures,
      c.steps_along-z.ensures.value,
      c.steps_along-y.ensures.value,
      c.steps_along-x.ensures.value,
    )
