-- `neighbors::steps_along` meets its contract: each step is a sum along the axis.
-- Assumes nothing.
use native.Mathlib.Omega.{arith}
use Prim.Native.Nat.{◌+◌}
use lib.Bits.{bit_and, and_le_r}
use Rattle.ids.specs.Morton.{gather}
use Rattle.neighbors.proofs.StepLaws.{stay_along, moved_stay, add_along, sums}
use Rattle.neighbors.proofs.steps_along.Goals as goal

pub overflow_add-result : goal.overflow_add-result
overflow_add-result c = omega (arith, and_le_r c.args.m 0x249249249249)

pub overflow_add-result-2 : goal.overflow_add-result-2
overflow_add-result-2 c = omega (arith, and_le_r c.args.m 0x249249249249)

pub overflow_add-result-3 : goal.overflow_add-result-3
overflow_add-result-3 c = omega (arith, and_le_r c.args.m 0x249249249249)

pub overflow_add-result-4 : goal.overflow_add-result-4
overflow_add-result-4 c = omega (arith, and_le_r c.args.m 0x249249249249)

pub returns : goal.returns
returns c =
    let m = c.args.m in
    let x = gather 16 m in
    let s = bit_and m 0x249249249249 in
    let small = and_le_r m 0x249249249249 in record {
      value = rw (
        stay_along m,
        add_along x 131070 _ sums.0,
        add_along x 131071 _ sums.1,
        add_along x 131073 _ sums.2,
        add_along x 131074 _ sums.3,
        moved_stay x,
      );
      narrow = omega (
        arith,
        and_le_r (s + 0x7fffffffffffe) 0x1249249249249,
        and_le_r (s + 0x7ffffffffffff) 0x1249249249249,
        and_le_r (s + 0x6db6db6db6db7) 0x1249249249249,
        and_le_r (s + 0x6db6db6db6dbe) 0x1249249249249,
      );
    }
