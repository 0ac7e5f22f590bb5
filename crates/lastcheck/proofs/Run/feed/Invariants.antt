-- `lastcheck::Run::feed` meets its contract. The loop's invariant: the bytes passed are taken in turn, or the run ended where it could not write.
-- Assumes nothing.
use Rattle.lastcheck.specs.Steps.{state_of}
use Rattle.lastcheck.proofs.RunLaws.{Before}
use Rattle.lastcheck.proofs.Run.feed.Given as goal

abbrev pub invariant-loop-byte : goal.invariant-loop-byte
invariant-loop-byte l = Before (state_of l.initial.self) l.bytes l.byte-index (state_of l.self)
