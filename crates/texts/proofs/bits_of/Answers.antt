-- `texts::bits_of` meets its contract: a NaN has one pattern.
-- Assumes nothing.
use Rattle.std.proofs.Common.{sym, ◌∙◌}
use Rattle.texts.proofs.WritingLaws.{nan_bits}
use Rattle.texts.proofs.bits_of.Goals as goal

pub returns-then-is_nan : goal.returns-then-is_nan
returns-then-is_nan c = sym (nan_bits _ (sym c.is_nan.ensures.value ∙ c.if-is_nan.true))
