-- `mesh::settle_edges` meets its contract.
-- Assumes nothing.
use Prim.Native.Nat.{ℕ}
use mathlib.Core.Path.{ap, ◌∙◌}
use Rattle.lists.specs.Places.{cleared_from}
use Rattle.mesh.proofs.settle_edges.Goals as goal

pub returns : goal.returns
returns c =
    let a = c.args in record {
      first_after = c.clear_from.ensures ∙ ap (λ (k : ℕ). cleared_from 0 k a.first.now) c.kept-a.ensures;
      second_after = c.clear_from-2.ensures ∙ ap (λ (k : ℕ). cleared_from 0 k a.second.now) c.kept-b.ensures;
    }
