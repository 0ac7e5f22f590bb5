-- `floats::sign` meets its contract: the pattern is below 2 ^ 31 where the sign is clear. Assumes nothing.
use Rattle.std.proofs.Common.{Bool, not, T, sym, subst}
use lib.Ieee.{of_bits, neg}
use Rattle.floats.proofs.Signs.{sign_nan, number, sign_clear, sign_set}
use Rattle.floats.proofs.sign.Goals as goal

pub returns-then-x : goal.returns-then-x
returns-then-x c = sign_nan c.args.x c.if-x.true

pub float_to_bits-x : goal.float_to_bits-x
float_to_bits-x c = subst (λ (b : Bool). T (not b)) (sym (number c.args.x c.if-x.false)) tt

pub returns-then-x-lt2147483648 : goal.returns-then-x-lt2147483648
unfolding of_bits neg
returns-then-x-lt2147483648 c = sign_clear c.args.x (subst T (sym c.well_formed.0.1) tt) (number c.args.x c.if-x.false) c.if-x-lt2147483648.true

pub returns-else-x-lt2147483648 : goal.returns-else-x-lt2147483648
unfolding of_bits neg
returns-else-x-lt2147483648 c = sign_set c.args.x (subst T (sym c.well_formed.0.1) tt) (number c.args.x c.if-x.false) c.if-x-lt2147483648.false
