-- `mesh::settle_places` meets its contract.
-- Assumes nothing.
use Prim.Native.Nat.{ℕ}
use mathlib.Core.Path.{ap, ◌∙◌}
use Rattle.lists.specs.Places.{zero_f, cleared_from}
use Rattle.mesh.proofs.settle_places.Goals as goal

pub returns : goal.returns
returns c =
    let a = c.args in
    let e = c.kept-k.ensures in
    record {
      x_after = c.clear_from.ensures ∙ ap (λ (k : ℕ). cleared_from zero_f k a.x.now) e;
      y_after = c.clear_from-2.ensures ∙ ap (λ (k : ℕ). cleared_from zero_f k a.y.now) e;
      z_after = c.clear_from-3.ensures ∙ ap (λ (k : ℕ). cleared_from zero_f k a.z.now) e;
    }
