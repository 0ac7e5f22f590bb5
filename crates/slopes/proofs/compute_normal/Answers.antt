-- `slopes::compute_normal` meets its contract: what is left of the neighbours says what all of them say.
use Prim.Native.Nat.{◌≤◌}
use mathlib.Core.Path.{◌≡◌, refl, ◌∙◌}
use native.Mathlib.Omega.{arith}
use lib.ListN.{length}
use lib.Ieee.{of_bits}
use Rattle.neighbors.specs.Neighbors.{neighbours}
use Rattle.neighbors.proofs.NeighborLaws.{cells_known}
use Rattle.slopes.proofs.Working.{count_more, slopes_more, slopes_done, normal_none, normal_some}
use Rattle.slopes.proofs.compute_normal.Goals as goal

pub returns-in_default : goal.returns-in_default
unfolding of_bits
returns-in_default c = normal_none _ _ _ _ c.distance_of.ensures c.in_default.is

pub loop-neighbour-init : goal.loop-neighbour-init
unfolding of_bits
loop-neighbour-init c = (omega arith, refl)

pub loop-neighbour-preserved : goal.loop-neighbour-preserved
loop-neighbour-preserved c =
    let v = c.loop-neighbour.invariant in
    let cells : c.cells-neighbour-items.result.now ≡ neighbours c.args.key =
    cells_known _ c.around-near.ensures c.cells-neighbour-items.ensures in (
      count_more _ _ _ _ _ _ _ _ c.slopes_with-sum.ensures v.0,
      v.1 ∙ slopes_more _ _ _ _ _ _ cells _ _ _ _ c.loop-neighbour-test.true c.distance_of-stored.ensures c.slopes_with-sum.ensures,
    )

pub returns : goal.returns
returns c =
    let v = c.loop-neighbour.invariant in
    let cells : c.cells-neighbour-items.result.now ≡ neighbours c.args.key =
    cells_known _ c.around-near.ensures c.cells-neighbour-items.ensures in
    let all : length (neighbours c.args.key) ≤ c.loop-neighbour.neighbour-index = rw (← cells) c.loop-neighbour-test.false in
    c.mean_of.ensures ∙ normal_some _ _ _ _ c.distance_of.ensures _ _ c.in-Some.is (v.1 ∙ slopes_done _ _ _ _ _ _ cells _ _ all)
