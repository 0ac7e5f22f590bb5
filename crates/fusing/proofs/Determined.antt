-- Every public contract settles its outcome: two that meet it are equal, in the answer and in every lent place. Each is
-- one equation of an answer beside the table that is left, and its parts follow.
-- Assumes nothing.
use Rattle.std.specs.Prelude.{Result}
use mathlib.Core.Path.{◌≡◌, sym, ap, ◌∙◌}
use mathlib.Core.List.{List}
use Prim.Native.Nat.{ℕ}
use lib.Ieee.{Float}
use Rattle.table.specs.Table.{table}
use Rattle.fusing.specs.declared.Fused.{Fused}
use Rattle.fusing.specs.declared.Step.{Step}
use Rattle.fusing.specs.Fusing.{Outcome, outcome, Effect, effect}
use Rattle.fusing.proofs.AveragingFromSettings.from.Reads as averaging_from
use Rattle.fusing.proofs.fused_voxel.Reads as fused_voxel
use Rattle.fusing.proofs.fuse_sound.Reads as fuse_sound
use Rattle.fusing.proofs.FusedFromStep.from.Reads as fused_from
use Rattle.fusing.proofs.fuse.Reads as fuse
use Rattle.fusing.proofs.update_from_depth.Reads as update_from_depth
use Rattle.fusing.proofs.update_from_depth_ray.Reads as update_from_depth_ray
use Rattle.refusals.specs.declared.Refusal.{Refusal}

parts :
    {a a' : Result Fused Refusal} {ks ks' : List ℕ} {ds ds' ws ws' : List Float} {n n' : ℕ}
    → outcome a (table ks ds ws n) ≡ outcome a' (table ks' ds' ws' n')
    → (a ≡ a') × (ks ≡ ks') × (ds ≡ ds') × (ws ≡ ws') × (n ≡ n')
parts e = (
  ap (λ (o : Outcome). o.answer) e,
  ap (λ (o : Outcome). o.left.keys) e,
  ap (λ (o : Outcome). o.left.distances) e,
  ap (λ (o : Outcome). o.left.weights) e,
  ap (λ (o : Outcome). o.left.count) e,
)

effect_parts :
    {a a' : Result Step Refusal} {ks ks' : List ℕ} {ds ds' ws ws' : List Float} {n n' : ℕ}
    → effect a (table ks ds ws n) ≡ effect a' (table ks' ds' ws' n')
    → (a ≡ a') × (ks ≡ ks') × (ds ≡ ds') × (ws ≡ ws') × (n ≡ n')
effect_parts e = (
  ap (λ (o : Effect). o.step) e,
  ap (λ (o : Effect). o.left.keys) e,
  ap (λ (o : Effect). o.left.distances) e,
  ap (λ (o : Effect). o.left.weights) e,
  ap (λ (o : Effect). o.left.count) e,
)

pub averaging_from_determined : (κs : _) (a : _) (r r' : _) (s s' : _) → averaging_from.Post κs a r s → averaging_from.Post κs a r' s' → r ≡ r'
averaging_from_determined κs a r r' s s' p q = p ∙ sym q

pub fused_from_determined : (κs : _) (a : _) (r r' : _) (s s' : _) → fused_from.Post κs a r s → fused_from.Post κs a r' s' → r ≡ r'
fused_from_determined κs a r r' s s' p q = p ∙ sym q

pub fused_voxel_determined : (κs : _) (a : _) (r r' : _) (s s' : _) → fused_voxel.Post κs a r s → fused_voxel.Post κs a r' s' → r ≡ r'
fused_voxel_determined κs a r r' s s' p q = p ∙ sym q

pub fuse_sound_determined :
    (κs : _) (a : _) (r r' : _) (s s' : _)
    → fuse_sound.Post κs a r s
    → fuse_sound.Post κs a r' s'
    → (r ≡ r')
    × (s.1.0.now.keys.now ≡ s'.1.0.now.keys.now)
    × (s.1.0.now.distances.now ≡ s'.1.0.now.distances.now)
    × (s.1.0.now.weights.now ≡ s'.1.0.now.weights.now)
    × (s.1.0.now.count ≡ s'.1.0.now.count)
    × (s.1.0.now.keys.ghost_name ≡ s'.1.0.now.keys.ghost_name)
    × (s.1.0.now.distances.ghost_name ≡ s'.1.0.now.distances.ghost_name)
    × (s.1.0.now.weights.ghost_name ≡ s'.1.0.now.weights.ghost_name)
fuse_sound_determined κs a r r' s s' p q =
    let e = effect_parts (p.0 ∙ sym q.0) in
    (e.0, e.1, e.2, e.3, e.4, p.1.0 ∙ sym q.1.0, p.1.1 ∙ sym q.1.1, p.1.2 ∙ sym q.1.2)

pub fuse_determined :
    (κs : _) (a : _) (r r' : _) (s s' : _)
    → fuse.Post κs a r s
    → fuse.Post κs a r' s'
    → (r ≡ r')
    × (s.1.0.now.keys.now ≡ s'.1.0.now.keys.now)
    × (s.1.0.now.distances.now ≡ s'.1.0.now.distances.now)
    × (s.1.0.now.weights.now ≡ s'.1.0.now.weights.now)
    × (s.1.0.now.count ≡ s'.1.0.now.count)
    × (s.1.0.now.keys.ghost_name ≡ s'.1.0.now.keys.ghost_name)
    × (s.1.0.now.distances.ghost_name ≡ s'.1.0.now.distances.ghost_name)
    × (s.1.0.now.weights.ghost_name ≡ s'.1.0.now.weights.ghost_name)
fuse_determined κs a r r' s s' p q =
    let e = parts (p.0 ∙ sym q.0) in
    (e.0, e.1, e.2, e.3, e.4, p.1.0 ∙ sym q.1.0, p.1.1 ∙ sym q.1.1, p.1.2 ∙ sym q.1.2)

pub update_from_depth_determined :
    (κs : _) (a : _) (r r' : _) (s s' : _)
    → update_from_depth.Post κs a r s
    → update_from_depth.Post κs a r' s'
    → (r ≡ r')
    × (s.1.0.now.keys.now ≡ s'.1.0.now.keys.now)
    × (s.1.0.now.distances.now ≡ s'.1.0.now.distances.now)
    × (s.1.0.now.weights.now ≡ s'.1.0.now.weights.now)
    × (s.1.0.now.count ≡ s'.1.0.now.count)
    × (s.1.0.now.keys.ghost_name ≡ s'.1.0.now.keys.ghost_name)
    × (s.1.0.now.distances.ghost_name ≡ s'.1.0.now.distances.ghost_name)
    × (s.1.0.now.weights.ghost_name ≡ s'.1.0.now.weights.ghost_name)
update_from_depth_determined κs a r r' s s' p q =
    let e = parts (p.0 ∙ sym q.0) in
    (e.0, e.1, e.2, e.3, e.4, p.1.0 ∙ sym q.1.0, p.1.1 ∙ sym q.1.1, p.1.2 ∙ sym q.1.2)

pub update_from_depth_ray_determined :
    (κs : _) (a : _) (r r' : _) (s s' : _)
    → update_from_depth_ray.Post κs a r s
    → update_from_depth_ray.Post κs a r' s'
    → (r ≡ r')
    × (s.1.0.now.keys.now ≡ s'.1.0.now.keys.now)
    × (s.1.0.now.distances.now ≡ s'.1.0.now.distances.now)
    × (s.1.0.now.weights.now ≡ s'.1.0.now.weights.now)
    × (s.1.0.now.count ≡ s'.1.0.now.count)
    × (s.1.0.now.keys.ghost_name ≡ s'.1.0.now.keys.ghost_name)
    × (s.1.0.now.distances.ghost_name ≡ s'.1.0.now.distances.ghost_name)
    × (s.1.0.now.weights.ghost_name ≡ s'.1.0.now.weights.ghost_name)
update_from_depth_ray_determined κs a r r' s s' p q =
    let e = parts (p.0 ∙ sym q.0) in
    (e.0, e.1, e.2, e.3, e.4, p.1.0 ∙ sym q.1.0, p.1.1 ∙ sym q.1.1, p.1.2 ∙ sym q.1.2)
