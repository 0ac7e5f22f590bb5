-- `groups::with_number` meets its contract: a number that was found is put into its place.
-- Assumes nothing.
use native.Mathlib.Omega.{arith}
use mathlib.Core.Path.{◌∙◌}
use Rattle.groups.proofs.FoundLaws.{with_one_lem, with_none, below_at}
use Rattle.groups.proofs.with_number.Goals as goal

pub overflow_cast-i : goal.overflow_cast-i
overflow_cast-i c = omega (arith, below_at 1048576 _ c.args.found c.in-Some.is c.requires.1)

pub returns-in-Some : goal.returns-in-Some
returns-in-Some c = c.with.ensures ∙ with_one_lem c.args.group c.args.found _ c.requires.0 c.in-Some.is

pub returns-in-None : goal.returns-in-None
returns-in-None c = with_none c.args.group c.args.found c.requires.0 c.in-None.is
