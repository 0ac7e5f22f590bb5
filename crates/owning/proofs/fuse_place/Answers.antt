-- `owning::fuse_place` meets its contract: each return is one case of what a reading leaves.
-- Assumes nothing.
use Rattle.std.proofs.Common.{not}
use mathlib.Core.Path.{refl, sym, ap, ◌∙◌}
use lib.ListN.{set}
use Rattle.floats.specs.Floats.{million, within}
use Rattle.lists.proofs.Bools.{yes, no}
use Rattle.table.specs.declared.Voxel.{Voxel}
use Rattle.owning.specs.Runs.{Placed}
use Rattle.owning.proofs.Stepping.{after, either, other}
use Rattle.owning.proofs.fuse_place.Goals as goal

pub returns-then-not-stands-spare : goal.returns-then-not-stands-spare
unfolding Placed
returns-then-not-stands-spare c = (refl, refl)

pub returns-then-not-within : goal.returns-then-not-within
unfolding Placed
returns-then-not-within c =
    let e =
    after _ _ _ _ _ _ _ c.between-stands.ensures
    c.old_voxel.ensures c.fused_voxel-v.ensures in (
      refl,
      refl,
      refl,
      ap (λ (v : Voxel). within million v.distance) (sym e) ∙ no c.within.ensures (ap not c.if-not-within.true),
      either _ _ _ c.between-stands.ensures
          (ap not c.if-not-stands-spare.false),
    )

pub returns-then-stands : goal.returns-then-stands
unfolding Placed
returns-then-stands c =
    let e =
    after _ _ _ _ _ _ _ c.between-stands.ensures c.old_voxel.ensures
    c.fused_voxel-v.ensures in (
      sym c.between-stands.ensures ∙ c.if-stands.true,
      (
        ap (λ (v : Voxel). within million v.distance) (sym e)
            ∙ yes c.within.ensures (ap not c.if-not-within.false),
        ap (λ (v : Voxel). set c.args.own_distances.now c.args.place v.distance) e,
        ap (λ (v : Voxel). set c.args.own_weights.now c.args.place v.weight) e,
      ),
    )

pub returns : goal.returns
unfolding Placed
returns c =
    let e =
    after _ _ _ _ _ _ _ c.between-stands.ensures c.old_voxel.ensures
    c.fused_voxel-v.ensures in (
      sym c.between-stands.ensures ∙ c.if-stands.false,
      other _ _ (ap not c.if-not-stands-spare.false) c.if-stands.false,
      (
        ap (λ (v : Voxel). within million v.distance) (sym e)
            ∙ yes c.within.ensures (ap not c.if-not-within.false),
        ap (λ (v : Voxel). set c.args.own_distances.now c.args.place v.distance) e,
        ap (λ (v : Voxel). set c.args.own_weights.now c.args.place v.weight) e,
      ),
    )
