-- `words::float_of_pattern` meets its contract: only a NaN's pattern is above that of infinity.
-- Assumes nothing.
use native.Mathlib.Omega.{arith}
use mathlib.Core.Path.{sym, ◌∙◌}
use Rattle.words.proofs.WordLaws.{pattern_nan, pattern_number}
use Rattle.words.proofs.float_of_pattern.Goals as goal

pub float_from_bits-result : goal.float_from_bits-result
float_from_bits-result c = rw (pattern_number _ c.if-bits-gt2139095040.false) tt

pub returns-then-bits-gt2139095040 : goal.returns-then-bits-gt2139095040
returns-then-bits-gt2139095040 c = pattern_nan 0x7fc0_0000 (omega arith) ∙ sym (pattern_nan _ c.if-bits-gt2139095040.true)
