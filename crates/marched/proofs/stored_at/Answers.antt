-- `marched::stored_at` meets its contract: the place that is found is the row's, as the keys ascend.
-- Assumes nothing.
use Rattle.std.proofs.Common.{arith}
use Rattle.marched.proofs.MarchedLaws.{not_stored, in_distances, is_stored}
use Rattle.marched.proofs.stored_at.Goals as goal

pub returns-in_err-at : goal.returns-in_err-at
returns-in_err-at c =
    rw c.from_residual.ensures
    (not_stored c.args.field.now.keys.now c.args.field.now.distances.now c.args.field.now.count c.requires c.args.key _ c.find_row.ensures c.in_err-at.was)

pub offset_bounds-distances-at : goal.offset_bounds-distances-at
offset_bounds-distances-at c =
    omega (
      arith,
      in_distances c.args.field.now.keys.now c.args.field.now.distances.now c.args.field.now.count c.requires c.args.key _ c.find_row.ensures _ c.in_ok-at.was,
    )

pub bounds-distances-at : goal.bounds-distances-at
bounds-distances-at c =
    in_distances c.args.field.now.keys.now c.args.field.now.distances.now c.args.field.now.count c.requires c.args.key _ c.find_row.ensures _ c.in_ok-at.was

pub returns : goal.returns
returns c = is_stored c.args.field.now.keys.now c.args.field.now.distances.now c.args.field.now.count c.requires c.args.key _ c.find_row.ensures _ c.in_ok-at.was
