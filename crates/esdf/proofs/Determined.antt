-- Every public contract settles its outcome: two that meet it are equal, in the answer and in every lent place.
-- Assumes nothing.
use mathlib.Core.Path.{◌≡◌, sym, ap, ◌∙◌}
use Rattle.esdf.specs.Compute.{Outcome}
use Rattle.esdf.proofs.compute_from_tsdf.Reads as compute_from_tsdf

pub compute_from_tsdf_determined : (κs : _) (a : _) (r r' : _) (s s' : _)
    → compute_from_tsdf.Post κs a r s
    → compute_from_tsdf.Post κs a r' s'
    → (r ≡ r')
    × (s.1.1.1.0.now ≡ s'.1.1.1.0.now)
    × (s.1.1.1.1.0.now ≡ s'.1.1.1.1.0.now)
    × (s.1.1.1.1.1.0.now ≡ s'.1.1.1.1.1.0.now)
    × (s.1.1.1.1.1.1.0.now ≡ s'.1.1.1.1.1.1.0.now)
compute_from_tsdf_determined κs a r r' s s' p q =
    let e = p ∙ sym q in (
      ap (λ (o : Outcome). o.answer) e,
      ap (λ (o : Outcome). o.keys) e,
      ap (λ (o : Outcome). o.distances) e,
      ap (λ (o : Outcome). o.estimates) e,
      ap (λ (o : Outcome). o.cells) e,
    )
