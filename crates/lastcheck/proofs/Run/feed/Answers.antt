-- `lastcheck::Run::feed` meets its contract: a turn takes the next byte, and what is left is taken as before.
-- Assumes nothing.
use Rattle.std.proofs.Common.{refl, arith}
use mathlib.Core.Logic.{inl}
use Rattle.lastcheck.specs.Run.{fed}
use Rattle.lastcheck.specs.Steps.{state_of}
use Rattle.lastcheck.proofs.RunLaws.{fed_more, fed_all, written_state}
use Rattle.lastcheck.proofs.Run.feed.Goals as goal

pub loop-byte-init : goal.loop-byte-init
unfolding fed
loop-byte-init c = inl refl

pub loop-byte-preserved : goal.loop-byte-preserved
loop-byte-preserved c =
    fed_more (state_of c.args.self.now) c.args.bytes.now c.loop-byte.byte-index _ (state_of c.take_byte.new.self) _ (omega arith)
    c.loop-byte.invariant c.take_byte.ensures.next (written_state _ _ c.write.ensures)

pub returns : goal.returns
returns c = fed_all (state_of c.args.self.now) c.args.bytes.now c.loop-byte.byte-index _ (omega arith) c.loop-byte.invariant
