-- `bcc_utils::is_end` meets its contract: the ends' bits are these two. Assumes nothing.
use borrow.Author.Rules.{rules}
use mir.Syntax.{w32}
use mir.Val.{SFits}
use Rattle.bcc_utils.proofs.Words.{end_read}
use Rattle.bcc_utils.proofs.is_end.Goals as goal

pub returns : goal.returns
returns c = let h : SFits w32 c.args.x.0 = search rules in end_read _ h
