-- `root::inverse_guess` is safe, and what it gives is small: no coefficient of the polynomial is larger than the one before. Assumes nothing.
use Rattle.std.proofs.Common.{◌*◌, ◌%◌, ◌^◌, ◌≤◌, arith}
use Rattle.root.proofs.Whole.{square_mono}
use Rattle.root.proofs.inverse_guess.Goals as goal

squared : (c : goal.Start) → c.args.lead % 2 ^ 23 * (c.args.lead % 2 ^ 23) ≤ 2 ^ 23 * 2 ^ 23
squared c = square_mono (c.args.lead % 2 ^ 23) (2 ^ 23) (omega arith)

pub overflow_mul-square : goal.overflow_mul-square
overflow_mul-square c = omega (arith, squared c)

pub high-requires : goal.high-requires
high-requires c = (omega arith, omega (arith, squared c))

pub high-requires-2 : goal.high-requires-2
high-requires-2 c = (omega arith, omega (arith, squared c.before))
