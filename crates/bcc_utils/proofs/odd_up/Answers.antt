-- `bcc_utils::odd_up` meets its contract: the lowest bit is set. Assumes nothing.
use mathlib.Core.Path.{ap}
use lib.IntN.{ℤ}
use borrow.Author.Rules.{rules}
use mir.Syntax.{w32}
use mir.Val.{SFits}
use Rattle.bcc_utils.proofs.Words.{odd_up_read}
use Rattle.bcc_utils.proofs.odd_up.Goals as goal

pub returns : goal.returns
returns c = let h : SFits w32 c.args.x.0 = search rules in ap (λ (z : ℤ). record { 0 = z }) (odd_up_read _ h)
