-- `neighbors::around` meets its contract. The loop has found the neighbours by the offsets passed.
use borrow.Author.Rules.{rules}
use mathlib.Core.Path.{◌≡◌, refl, ◌∙◌}
use native.Mathlib.Omega.{arith}
use Rattle.lists.specs.Padding.{padded}
use Rattle.neighbors.specs.Neighbors.{offset_at, reached, neighbours_by}
use Rattle.neighbors.proofs.NeighborLaws.{first_all, keys_one, count_one, keys_none, count_none}
use Rattle.neighbors.proofs.StepLaws.{cell_reached}
use Rattle.neighbors.proofs.around.Goals.{in-Some, in_default}
use Rattle.neighbors.proofs.around.Goals as goal

pub loop-low-init : goal.loop-low-init
unfolding padded neighbours_by
loop-low-init c = (search rules, refl, refl, search rules)

pub loop-low-preserved : goal.loop-low-preserved
loop-low-preserved c =
    let k = c.args.key in
    let n = c.loop-low.low-index in
    let t = c.loop-low-test.true in
    let e : c.cell_of.result ≡ reached k (offset_at n) = rw (c.cell_of.ensures, c.lower_parts-parts.ensures) (cell_reached _ _ t) in
    let ks = c.loop-low.invariant.1 in
    let cs = c.loop-low.invariant.2 in
    elim c.match-cell_of.branch [
      | in-Some w ↦
          let f = w.in-Some.is in
          (omega arith, w.keys-is ∙ keys_one k n t e _ _ ks cs f, w.count-is ∙ count_one k n t e _ _ ks cs f, omega (arith, w.count-is))
      | in_default w ↦
          let f = w.in_default.is in
          (omega arith, w.keys-is ∙ keys_none k n t e _ _ ks cs f, w.count-is ∙ count_none k n t e _ _ ks cs f, omega (arith, w.count-is))
    ]

pub returns : goal.returns
returns c =
    let e : c.loop-low.low-index ≡ 14 = omega arith in
    rw (c.loop-low.invariant.1, c.loop-low.invariant.2, e, first_all)
