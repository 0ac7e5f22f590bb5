-- `esdf_questions::get_gradient` meets its contract: the verdict, what is stored, and the mean over the neighbours.
-- Assumes nothing.
use Rattle.std.proofs.lemmas.Result.{err_from_is_err_and}
use Rattle.marched.specs.Marched.{once_passed}
use Rattle.marched.proofs.MarchedLaws.{accepted}
use Rattle.esdf_questions.specs.Gradient.{gradient_at}
use Rattle.esdf_questions.proofs.get_gradient.Goals as goal

pub stored_at-requires : goal.stored_at-requires
stored_at-requires c =
    let a = c.args in
    accepted a.field.now.keys.now a.field.now.distances.now a.field.now.count _ _ c.check_key.ensures c.in_ok-check_key.was

pub sum_slopes-requires : goal.sum_slopes-requires
sum_slopes-requires c =
    let a = c.args in
    accepted a.field.now.keys.now a.field.now.distances.now a.field.now.count _ _ c.check_key.ensures c.in_ok-check_key.was

pub returns-in_err-check_key : goal.returns-in_err-check_key
unfolding once_passed
returns-in_err-check_key c =
    let p = err_from_is_err_and c.from_residual.result c.from_residual.ensures.1 in
    rw (p.1, p.2, ← c.check_key.ensures, c.in_err-check_key.was)

pub returns-in_default : goal.returns-in_default
unfolding once_passed gradient_at
returns-in_default c = rw (← c.check_key.ensures, c.in_ok-check_key.was, ← c.stored_at.ensures, c.in_default.is)

pub returns : goal.returns
unfolding once_passed gradient_at
returns c =
    rw (← c.check_key.ensures, c.in_ok-check_key.was, ← c.stored_at.ensures, c.in-Some.is, c.mean.ensures, c.sum_slopes.ensures)
