-- `tsdf_surveys::list_checked` meets its contract: what the tests refuse leaves nothing to keep, and what was written
-- from the front stands there where it has room.
-- Assumes nothing.
use Rattle.std.proofs.lemmas.Result.{err_from_is_err_and}
use Rattle.std.specs.Prelude.{ℕ, length, Result}
use mathlib.Core.Path.{refl, sym, ap, ◌∙◌}
use Rattle.lists.specs.Listing.{held_for}
use Rattle.refusals.specs.declared.Refusal.{Refusal}
use Rattle.lists.proofs.Held.{refused_held}
use Rattle.table.specs.Read.{rows_in}
use Rattle.tsdf_surveys.specs.Surface.{surface_keys, list_check, listed_if, surface_listed}
use Rattle.tsdf_surveys.proofs.Answers.{list_accepted, answer_room, keys_held}
use Rattle.tsdf_surveys.proofs.list_checked.Goals as goal

pub returns-in_err-check_threshold : goal.returns-in_err-check_threshold
unfolding surface_listed listed_if list_check
returns-in_err-check_threshold c =
    let p = err_from_is_err_and c.from_residual.result c.from_residual.ensures.1 in
    rw (p.1, p.2, ← c.check_threshold.ensures, c.in_err-check_threshold.was)
    (record {
      value = refl;
      out_after = refused_held 0 _ c.args.out.now (surface_keys c.args.threshold (rows_in c.args.rows.now));
    })

pub list_surface-n-requires : goal.list_surface-n-requires
unfolding list_check
list_surface-n-requires c = list_accepted _ _ _ _ _ _ _ (sym c.check_threshold.ensures ∙ c.in_ok-check_threshold.was)

pub returns : goal.returns
unfolding surface_listed list_check
returns c =
    let xs = surface_keys c.args.threshold (rows_in c.args.rows.now) in
    let w = c.list_surface-n.ensures in
    let e = c.room_for.ensures in
    let told = answer_room xs c.args.out.now _ _ w.value w.out_after _ e in
    rw (← c.check_threshold.ensures, c.in_ok-check_threshold.was)
    (record {
      value = told;
      out_after = keys_held xs c.args.out.now _ _ w.value w.out_after _ e
          ∙ ap (λ (q : Result ℕ Refusal). held_for 0 q (length c.args.out.now) xs) told;
    })
