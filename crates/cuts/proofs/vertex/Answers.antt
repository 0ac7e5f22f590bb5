-- `cuts::vertex` meets its contract: it reads off what was found.
-- Assumes nothing.
use native.Mathlib.Omega.{arith}
use Rattle.groups.proofs.FoundLaws.{below_at}
use Rattle.cuts.specs.Numbers.{vertex_by}
use Rattle.cuts.proofs.vertex.Goals as goal

pub overflow_cast-result : goal.overflow_cast-result
overflow_cast-result c =
    let small = below_at 1048576 _ _ c.in-Some.is c.number_between.ensures.below in
    omega arith

pub returns-in-Some : goal.returns-in-Some
unfolding vertex_by
returns-in-Some c = rw (← c.number_between.ensures.value, c.in-Some.is)

pub returns-in-None : goal.returns-in-None
unfolding vertex_by
returns-in-None c = rw (← c.number_between.ensures.value, c.in-None.is) c.past_last.ensures
