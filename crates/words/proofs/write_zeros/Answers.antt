-- `words::write_zeros` meets its contract: the part is filled.
-- Assumes nothing.
use Prim.Native.Nat.{◌+◌, ◌-◌}
use native.Mathlib.Omega.{arith}
use mathlib.Core.Path.{◌≡◌, sym, ap, ◌∙◌}
use lib.ListN.{length, length-replicate}
use borrow.Rule.Slice.PartMut.{mid_of, mid_len}
use Rattle.words.specs.Words.{zeros}
use Rattle.words.proofs.WordLaws.{part_written}
use Rattle.words.proofs.write_zeros.Goals as goal

pub returns : goal.returns
returns c =
    let l = c.args.list.now in
    let at = c.args.at in
    let n = c.args.count in
    let long : length (mid_of at (at + n - at) l) ≡ n = mid_len at (at + n) l (omega arith) ∙ omega arith in
    part_written l c.fill.new.self (zeros n) at n (omega arith) (sym (length-replicate n 0)) (c.fill.ensures.after (λ y e. e) ∙ ap zeros long)
