-- `root::root_bits` meets its contract, by `Patterns.root_pattern`. Assumes nothing.
use Rattle.std.proofs.Common.{◌^◌, ◌≤◌, arith}
use Rattle.root.proofs.Rounded.{near_le}
use Rattle.root.proofs.Patterns.{root_pattern}
use Rattle.root.proofs.root_bits.Goals as goal

-- the rounded root has at most 25 digits
q-le : (c : goal.After-near_root-q) → c.near_root-q.result ≤ 2 ^ 24
q-le c = near_le c.scaled_of-s.result.m c.near_root-q.result c.scaled_of-s.ensures.high c.near_root-q.ensures

pub overflow_cast-q : goal.overflow_cast-q
overflow_cast-q c = omega (arith, q-le c)

pub overflow_add-result : goal.overflow_add-result
overflow_add-result c = omega (arith, q-le c.before)

pub returns : goal.returns
returns c =
    let s = c.scaled_of-s in
    root_pattern c.args.b s.result.m s.result.k c.near_root-q.result c.requires.0 c.requires.1 s.ensures c.near_root-q.ensures
