-- `cuts::double` meets its contract.
-- Assumes nothing.
use Rattle.cuts.specs.Patches.{patch_by}
use Rattle.cuts.proofs.double.Goals as goal

pub returns : goal.returns
unfolding patch_by
returns c = rw (← c.vertex-pr.ensures, ← c.vertex-ps.ensures, ← c.vertex-qr.ensures, ← c.vertex-qs.ensures)
