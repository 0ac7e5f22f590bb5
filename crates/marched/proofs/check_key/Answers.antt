-- `marched::check_key` meets its contract: the table's verdict, then the key's.
-- Assumes nothing.
use Rattle.std.proofs.Common.{sym, ◌∙◌}
use Rattle.std.proofs.lemmas.Result.{err_from_is_err_and}
use Rattle.marched.specs.Marched.{marched_table}
use Rattle.marched.proofs.MarchedLaws.{refuses_on}
use Rattle.marched.proofs.Tests.{key_passes, key_fails}
use Rattle.marched.proofs.check_key.Goals as goal

pub returns-in_err-check : goal.returns-in_err-check
returns-in_err-check c =
    let a = c.args in
    let p = err_from_is_err_and c.from_residual.result c.from_residual.ensures.1 in
    rw (p.1, p.2) (refuses_on (marched_table a.field.now.keys.now a.field.now.distances.now a.field.now.count) _ _ c.check.ensures c.in_err-check.was)

pub returns-then-not-is_on_lattice : goal.returns-then-not-is_on_lattice
returns-then-not-is_on_lattice c =
    let a = c.args in
    key_fails (marched_table a.field.now.keys.now a.field.now.distances.now a.field.now.count) a.key _ c.check.ensures c.in_ok-check.was
    (sym c.is_on_lattice.ensures ∙ c.if-not-is_on_lattice.true)

pub returns : goal.returns
returns c =
    let a = c.args in
    key_passes (marched_table a.field.now.keys.now a.field.now.distances.now a.field.now.count) a.key _ c.check.ensures c.in_ok-check.was
    (sym c.is_on_lattice.ensures ∙ c.if-not-is_on_lattice.false)
