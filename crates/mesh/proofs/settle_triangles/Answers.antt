-- `mesh::settle_triangles` meets its contract.
-- Assumes nothing.
use Prim.Native.Nat.{ℕ}
use mathlib.Core.Path.{ap, ◌∙◌}
use Rattle.lists.specs.Places.{cleared_from}
use Rattle.mesh.proofs.settle_triangles.Goals as goal

pub returns : goal.returns
returns c =
    let a = c.args in
    record {
      groups_after = c.clear_from.ensures ∙ ap (λ (k : ℕ). cleared_from 0 k a.groups.now) c.kept-g.ensures;
      t0_after = c.clear_from-2.ensures ∙ ap (λ (k : ℕ). cleared_from 0 k a.t0.now) c.kept-a.ensures;
      t1_after = c.clear_from-3.ensures ∙ ap (λ (k : ℕ). cleared_from 0 k a.t1.now) c.kept-b.ensures;
      t2_after = c.clear_from-4.ensures ∙ ap (λ (k : ℕ). cleared_from 0 k a.t2.now) c.kept-c.ensures;
    }
