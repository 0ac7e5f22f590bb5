-- `esdf_surveys::fill` meets its contract: a verdict that refuses is the answer; another puts the rows and answers by the room.
-- Assumes nothing.
use Rattle.std.proofs.Common.{ap, sym, ◌∙◌}
use Rattle.std.proofs.lemmas.Result.{err_from_is_err_and}
use Rattle.marched.specs.Marched.{list_check}
use Rattle.marched.specs.Read.{marched_in, marched_rows_in}
use Rattle.marched.proofs.MarchedLaws.{may_list}
use Rattle.esdf_surveys.specs.Within.{cells_within, within_listed}
use Rattle.esdf_surveys.proofs.Walking.{fill_refused, fill_passed}
use Rattle.esdf_surveys.proofs.fill.Goals as goal

pub put_within-n-requires : goal.put_within-n-requires
put_within-n-requires c =
    let a = c.args in
    let h = may_list a.field.now.keys.now a.field.now.distances.now a.field.now.count a.out_keys.now a.out_distances.now _ a.threshold _
    c.pair_ok-fit.ensures c.check_list.ensures c.in_ok-check_list.was in
    (h.0, h.1)

pub returns-in_err-check_list : goal.returns-in_err-check_list
unfolding within_listed
returns-in_err-check_list c =
    let a = c.args in
    let p = err_from_is_err_and c.from_residual.result c.from_residual.ensures.1 in
    rw (p.1, p.2)
    (fill_refused _ (cells_within a.threshold (marched_rows_in a.field.now)) a.out_keys.now a.out_distances.now
    (ap (λ b. list_check (marched_in a.field.now) b a.threshold) (sym c.pair_ok-fit.ensures)
    ∙ sym c.check_list.ensures ∙ c.in_err-check_list.was))

pub returns : goal.returns
unfolding within_listed
returns c =
    let a = c.args in
    let h = may_list a.field.now.keys.now a.field.now.distances.now a.field.now.count a.out_keys.now a.out_distances.now _ a.threshold _
    c.pair_ok-fit.ensures c.check_list.ensures c.in_ok-check_list.was in
    fill_passed _ (cells_within a.threshold (marched_rows_in a.field.now)) a.out_keys.now a.out_distances.now _ _ _ _ _
    (ap (λ b. list_check (marched_in a.field.now) b a.threshold) (sym c.pair_ok-fit.ensures)
    ∙ sym c.check_list.ensures ∙ c.in_ok-check_list.was)
    h.2 c.put_within-n.auto.out_keys c.put_within-n.ensures c.room_for.ensures
