-- `tsdf_surveys::list_surface` meets its contract: what is left of the rows is written after what was.
use mathlib.Core.Path.{refl, sym, ap, ◌∙◌}
use native.Mathlib.Omega.{arith}
use lib.ListN.{length}
use lib.Seq.{sets}
use Rattle.tsdf_surveys.proofs.RowByRow.{surface_taken, surface_skipped, surface_ended, wrote_more, wrote_all}
use borrow.Author.Rules.{rules}
use Rattle.tsdf_surveys.proofs.list_surface.Goals as goal
use Rattle.tsdf_surveys.proofs.list_surface.Goals.{then-is_surface, else-is_surface}

pub loop-i-init : goal.loop-i-init
loop-i-init c = (search rules, search rules, omega arith, refl, refl)

pub loop-i-preserved : goal.loop-i-preserved
loop-i-preserved c =
    let a = c.args in
    let r = a.rows.now in
    let l = c.loop-i in
    elim c.if-is_surface.branch [
      | then-is_surface w ↦
          let k =
          surface_taken r.keys.now r.distances.now r.weights.now r.count c.requires l.i c.loop-i-test.true a.threshold
          (sym c.is_surface.ensures ∙ w.if-is_surface.true) in
          rw (w.n-is, w.out-is) (
            omega arith,
            omega arith,
            omega (arith, l.invariant.2, ap length k),
            wrote_more _ _ _ _ _ _ _ l.invariant.3 k w.put.ensures,
            w.put.auto.list ∙ l.invariant.4,
          )
      | else-is_surface w ↦
          let k =
          surface_skipped r.keys.now r.distances.now r.weights.now r.count c.requires l.i c.loop-i-test.true a.threshold
          (sym c.is_surface.ensures ∙ w.if-is_surface.false) in
          rw (w.n-is, w.out-is) (
            omega arith,
            omega arith,
            omega (arith, l.invariant.2, ap length k),
            l.invariant.3 ∙ ap (sets l.out l.n) k,
            l.invariant.4,
          )
    ]

pub returns : goal.returns
returns c =
    let a = c.args in
    let z = surface_ended a.rows.now.keys.now a.rows.now.distances.now a.rows.now.weights.now a.rows.now.count c.loop-i.i c.loop-i-test.false a.threshold in
    record {
      value = omega (arith, c.loop-i.invariant.2, ap length z);
      out_after = wrote_all _ _ _ _ c.loop-i.invariant.3 z;
    }
