-- `root::near_root` meets its contract: a guess that passes the test is the nearest, and otherwise the steps find it. Assumes nothing.
use Rattle.std.proofs.Common.{◌+◌, ◌^◌, arith}
use Rattle.root.proofs.Whole.{square_mono}
use Rattle.root.proofs.near_root.Goals as goal

pub overflow_mul-q : goal.overflow_mul-q
overflow_mul-q c = omega (arith, square_mono c.root_guess-q.result (2 ^ 27) (omega arith))

pub overflow_mul-n : goal.overflow_mul-n
overflow_mul-n c = omega (arith, square_mono (c.root_guess-q.result + 1) (2 ^ 27) (omega arith))
