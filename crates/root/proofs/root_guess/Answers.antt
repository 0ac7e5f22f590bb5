-- `root::root_guess` is safe, and what it gives is small: the digits of each factor are counted. Assumes nothing.
use Rattle.std.proofs.Common.{◌*◌, ◌/◌, ◌%◌, ◌^◌, ◌≤◌, mul-le-mul, arith}
use Rattle.root.proofs.Whole.{square_mono}
use Rattle.root.proofs.root_guess.Goals as goal

-- what is added to the first root, before it is cut
added : (c : goal.After-wrapping_sub_u64-left) → c.wrapping_sub_u64-left.result % 2 ^ 39 * (c.high-inverse.result / 2 ^ 8) ≤ 2 ^ 39 * 2 ^ 24
added c = mul-le-mul {n₂ = 2 ^ 39} {m₂ = 2 ^ 24} (omega arith) (omega arith)

pub overflow_mul-s : goal.overflow_mul-s
overflow_mul-s c = omega (arith, square_mono (c.high-s.result / 64) (2 ^ 26) (omega arith))

pub overflow_mul-result : goal.overflow_mul-result
overflow_mul-result c = omega (arith, added c)

pub overflow_add-result : goal.overflow_add-result
overflow_add-result c = omega (arith, added c)

pub overflow_add-result-2 : goal.overflow_add-result-2
overflow_add-result-2 c = omega (arith, added c)

pub returns : goal.returns
returns c = omega (arith, added c)
