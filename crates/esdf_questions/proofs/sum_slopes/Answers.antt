-- `esdf_questions::sum_slopes` meets its contract: the neighbours that are left say what all say.
use mathlib.Core.Path.{◌≡◌, refl, sym, ◌∙◌}
use Prim.Native.Nat.{◌<◌}
use native.Mathlib.Omega.{arith}
use lib.ListN.{length}
use lib.Ieee.{of_bits}
use Rattle.neighbors.specs.Neighbors.{neighbours}
use Rattle.neighbors.proofs.NeighborLaws.{cells_known, at_most_14}
use Rattle.marched.specs.Read.{marched_rows_in}
use Rattle.esdf_questions.proofs.Walking.{slopes_more, slopes_none, slopes_few}
use borrow.Author.Rules.{rules}
use Rattle.esdf_questions.proofs.sum_slopes.Goals as goal

pub loop-neighbour-init : goal.loop-neighbour-init
unfolding of_bits
loop-neighbour-init c = (search rules, refl)

pub slopes_next-sum-requires : goal.slopes_next-sum-requires
slopes_next-sum-requires c =
    let cells : c.cells-neighbour-items.result.now ≡ neighbours c.args.key = cells_known _ c.around-near.ensures c.cells-neighbour-items.ensures in
    let few = at_most_14 c.args.key in
    let within : c.loop-neighbour.neighbour-index < length (neighbours c.args.key) = rw cells at c.loop-neighbour-test.true in
    (c.requires, let i = c.loop-neighbour.invariant in omega arith)

pub loop-neighbour-preserved : goal.loop-neighbour-preserved
loop-neighbour-preserved c =
    let l = c.loop-neighbour in
    let a = c.args in
    let cells : c.cells-neighbour-items.result.now ≡ neighbours a.key = cells_known _ c.around-near.ensures c.cells-neighbour-items.ensures in
    let e = c.slopes_next-sum.ensures in (
      rw e (slopes_few a.key a.distance l.sum _ _ l.neighbour-index l.invariant.0),
      l.invariant.1
          ∙ slopes_more (marched_rows_in a.field.now) a.key a.distance (neighbours a.key) _ cells l.neighbour-index l.sum _
          (rw cells at c.loop-neighbour-test.true) e,
    )

pub returns : goal.returns
returns c =
    let l = c.loop-neighbour in
    let a = c.args in
    let cells : c.cells-neighbour-items.result.now ≡ neighbours a.key = cells_known _ c.around-near.ensures c.cells-neighbour-items.ensures in
    sym (l.invariant.1
    ∙ slopes_none (marched_rows_in a.field.now) a.key a.distance (neighbours a.key) _ cells l.neighbour-index l.sum
    (rw cells at c.loop-neighbour-test.false))
