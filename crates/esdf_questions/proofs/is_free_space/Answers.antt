-- `esdf_questions::is_free_space` meets its contract: the verdict, then what is stored.
-- Assumes nothing.
use Rattle.std.proofs.Common.{rules}
use Rattle.std.proofs.lemmas.Result.{err_from_is_err_and}
use Rattle.marched.specs.Marched.{once_passed}
use Rattle.marched.proofs.MarchedLaws.{accepted}
use Rattle.esdf_questions.specs.Lookups.{is_above}
use Rattle.esdf_questions.proofs.is_free_space.Goals as goal

pub stored_at-requires : goal.stored_at-requires
stored_at-requires c =
    let a = c.args in
    accepted a.field.now.keys.now a.field.now.distances.now a.field.now.count _ _ c.check_free.ensures c.in_ok-check_free.was

pub returns-in_err-check_free : goal.returns-in_err-check_free
unfolding once_passed
returns-in_err-check_free c =
    let p = err_from_is_err_and c.from_residual.result c.from_residual.ensures.1 in
    rw (p.1, p.2, ← c.check_free.ensures, c.in_err-check_free.was)

pub returns : goal.returns
unfolding once_passed is_above
returns c = rw (← c.check_free.ensures, c.in_ok-check_free.was, ← c.stored_at.ensures) (search rules)
