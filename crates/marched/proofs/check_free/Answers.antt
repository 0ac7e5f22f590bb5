-- `marched::check_free` meets its contract: the key's verdict, then the threshold's.
-- Assumes nothing.
use Rattle.std.proofs.Common.{sym, ◌∙◌}
use Rattle.std.proofs.lemmas.Result.{err_from_is_err_and}
use Rattle.marched.specs.Marched.{marched_table}
use Rattle.marched.proofs.MarchedLaws.{refuses_after}
use Rattle.marched.proofs.Tests.{free_passes, free_fails}
use Rattle.marched.proofs.check_free.Goals as goal

pub returns-in_err-check_key : goal.returns-in_err-check_key
returns-in_err-check_key c =
    let a = c.args in
    let p = err_from_is_err_and c.from_residual.result c.from_residual.ensures.1 in
    rw (p.1, p.2)
    (refuses_after (marched_table a.field.now.keys.now a.field.now.distances.now a.field.now.count) _ a.key _ c.check_key.ensures c.in_err-check_key.was)

pub returns-then-not-is_finite : goal.returns-then-not-is_finite
returns-then-not-is_finite c =
    let a = c.args in
    free_fails (marched_table a.field.now.keys.now a.field.now.distances.now a.field.now.count) a.key _ a.threshold c.check_key.ensures c.in_ok-check_key.was
    (sym c.is_finite.ensures ∙ c.if-not-is_finite.true)

pub returns : goal.returns
returns c =
    let a = c.args in
    free_passes (marched_table a.field.now.keys.now a.field.now.distances.now a.field.now.count) a.key _ a.threshold c.check_key.ensures c.in_ok-check_key.was
    (sym c.is_finite.ensures ∙ c.if-not-is_finite.false)
