-- `root::whole_root` meets its contract: the whole part r of the root is nearest unless m is above r * r + r. Assumes nothing.
use Rattle.std.proofs.Common.{arith}
use Rattle.root.proofs.Whole.{square_le}
use Rattle.root.proofs.whole_root.Goals as goal

pub overflow_mul-r : goal.overflow_mul-r
overflow_mul-r c = omega (arith, c.isqrt-r.ensures.square_le)

pub overflow_sub-m : goal.overflow_sub-m
overflow_sub-m c = c.isqrt-r.ensures.square_le

pub overflow_add-result : goal.overflow_add-result
overflow_add-result c = omega (arith, c.isqrt-r.ensures.bound)

pub returns-then-m-r : goal.returns-then-m-r
returns-then-m-r c =
    let r = c.isqrt-r.result in
    let u = c.isqrt-r.ensures.next_square_gt in
    record { low = omega (arith, c.isqrt-r.ensures.square_le, square_le 1 r (omega arith)); high = omega arith }

pub returns-else-m-r : goal.returns-else-m-r
returns-else-m-r c =
    let l = c.isqrt-r.ensures.square_le in
    let u = c.isqrt-r.ensures.next_square_gt in
    record { low = omega arith; high = omega arith }
