-- `root::high` meets its contract: the second factor is at most 2 ^ 32. Assumes nothing.
use Rattle.std.proofs.Common.{◌*◌, ◌^◌, ◌≤◌, mul-le-mul_left, arith}
use Rattle.root.proofs.high.Goals as goal

-- the product is at most a * 2 ^ 32
below : (c : goal.Start) → c.args.a * c.args.b ≤ c.args.a * 2 ^ 32
below c = mul-le-mul_left c.args.a c.requires.1

pub overflow_mul-result : goal.overflow_mul-result
overflow_mul-result c = omega (arith, below c)

pub returns : goal.returns
returns c = omega (arith, below c)
