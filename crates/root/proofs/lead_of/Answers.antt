-- `root::lead_of` meets its contract: the exponent's field says how far the digits are shifted, and a field of 0 goes to `lifted`. Assumes nothing.
use Rattle.std.proofs.Common.{◌+◌, ◌/◌, ◌%◌, ◌^◌, arith, le-ltb, lt-ltb}
use Rattle.root.proofs.Leading.{units_lead}
use Rattle.root.proofs.lead_of.Goals as goal

pub returns-then-b-lt8388608 : goal.returns-then-b-lt8388608
returns-then-b-lt8388608 c = rw (lt-ltb c.args.b (2 ^ 23) c.if-b-lt8388608.true) c.lifted.ensures

pub returns-else-b-lt8388608 : goal.returns-else-b-lt8388608
returns-else-b-lt8388608 c =
    let b = c.args.b in
    rw (le-ltb b (2 ^ 23) c.if-b-lt8388608.false)
    (record {
      same = units_lead (2 ^ 23 + b % 2 ^ 23) (b / 2 ^ 23) (omega arith);
      low = omega arith;
      high = omega arith;
      least = omega arith;
      most = omega arith;
    })
