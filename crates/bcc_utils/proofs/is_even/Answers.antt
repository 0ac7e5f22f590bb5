-- `bcc_utils::is_even` meets its contract: the lowest bit is the parity. Assumes nothing.
use borrow.Author.Rules.{rules}
use mir.Syntax.{w32}
use mir.Val.{SFits}
use Rattle.bcc_utils.proofs.Words.{even_read}
use Rattle.bcc_utils.proofs.is_even.Goals as goal

pub returns : goal.returns
returns c = let h : SFits w32 c.args.x.0 = search rules in even_read _ h
