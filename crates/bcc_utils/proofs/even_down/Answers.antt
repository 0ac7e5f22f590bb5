-- `bcc_utils::even_down` meets its contract: the lowest bit is cleared. Assumes nothing.
use mathlib.Core.Path.{ap}
use lib.IntN.{ℤ}
use borrow.Author.Rules.{rules}
use mir.Syntax.{w32}
use mir.Val.{SFits}
use Rattle.bcc_utils.proofs.Words.{even_down_read}
use Rattle.bcc_utils.proofs.even_down.Goals as goal

pub returns : goal.returns
returns c = let h : SFits w32 c.args.x.0 = search rules in ap (λ (z : ℤ). record { 0 = z }) (even_down_read _ h)
