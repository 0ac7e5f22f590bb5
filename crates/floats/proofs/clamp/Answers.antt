-- `floats::clamp` meets its contract: each answer is the case that the tests leave. Assumes nothing.
use Rattle.floats.proofs.clamp.Goals as goal

pub returns-then-x-lo : goal.returns-then-x-lo
returns-then-x-lo c = simp c.if-x-lo.true

pub returns-then-hi-x : goal.returns-then-hi-x
returns-then-hi-x c = simp (c.if-x-lo.false, c.if-hi-x.true)

pub returns-else-hi-x : goal.returns-else-hi-x
returns-else-hi-x c = simp (c.if-x-lo.false, c.if-hi-x.false)
