-- `ids::gather16` meets its contract: each stage joins groups of bits by twos.
-- Assumes nothing.
use Prim.Native.Nat.{ℕ, ◌+◌, ◌*◌, ◌/◌}
use native.Mathlib.Omega.{arith}
use lib.Bits.{bit_and, and_le_r}
use Rattle.ids.proofs.MaskLaws.{pairs, fours, eights, sixteen}
use Rattle.ids.proofs.gather16.Goals as goal

-- the groups of 2, and of 4
abbrev stage1 : ℕ → ℕ
stage1 m = bit_and m 0x041041041041 + bit_and (m / 8) 0x041041041041 * 2

abbrev stage2 : ℕ → ℕ
stage2 m = bit_and (stage1 m) 0x003003003003 + bit_and (stage1 m / 64) 0x003003003003 * 4

pub overflow_mul-pairs : goal.overflow_mul-pairs
overflow_mul-pairs c = omega (arith, and_le_r (c.args.m / 8) 0x041041041041)

pub overflow_add-pairs : goal.overflow_add-pairs
overflow_add-pairs c = omega (arith, and_le_r c.args.m 0x041041041041, and_le_r (c.args.m / 8) 0x041041041041)

pub overflow_mul-fours : goal.overflow_mul-fours
overflow_mul-fours c = omega (arith, and_le_r (stage1 c.args.m / 64) 0x003003003003)

pub overflow_add-fours : goal.overflow_add-fours
overflow_add-fours c = omega (arith, and_le_r (stage1 c.args.m) 0x003003003003, and_le_r (stage1 c.args.m / 64) 0x003003003003)

pub overflow_mul-eights : goal.overflow_mul-eights
overflow_mul-eights c = omega (arith, and_le_r (stage2 c.args.m / 4096) 0x00000f00000f)

pub overflow_add-eights : goal.overflow_add-eights
overflow_add-eights c = omega (arith, and_le_r (stage2 c.args.m) 0x00000f00000f, and_le_r (stage2 c.args.m / 4096) 0x00000f00000f)

pub returns : goal.returns
returns c = let m = c.args.m in sixteen m (eights m (fours m (pairs m)))
