-- `lastlines::print_mesh` meets its contract, case by case.
-- Assumes nothing.
use native.Mathlib.Omega.{arith}
use Rattle.lastlines.proofs.LineLaws.{edges_few, counts_fit, print_done, print_refused}
use Rattle.lastlines.proofs.print_mesh.Goals as goal

pub vertex_lines-requires : goal.vertex_lines-requires
vertex_lines-requires c =
    let few = edges_few c.in-Ok.is c.requires.0 in
    let fit = counts_fit _ _ _ c.counts_line-at.ensures.value in
    let long = c.requires in
    record {
      at_bound = omega arith;
      n_bound = (few, omega arith, omega arith, omega arith);
    }

pub overflow_mul-result : goal.overflow_mul-result
overflow_mul-result c =
    let few = edges_few c.in-Ok.is c.requires.0 in
    let fit = counts_fit _ _ _ c.counts_line-at.ensures.value in
    omega arith

pub overflow_add-result : goal.overflow_add-result
overflow_add-result c =
    let few = edges_few c.in-Ok.is c.requires.0 in
    let fit = counts_fit _ _ _ c.counts_line-at.ensures.value in
    omega arith

pub returns-in-Ok : goal.returns-in-Ok
returns-in-Ok c =
    print_done _ _ _ _ _ _ _ _ c.in-Ok.is c.counts_line-at.ensures.value c.counts_line-at.ensures.out_after
    c.vertex_lines.ensures

pub returns-in-Err : goal.returns-in-Err
returns-in-Err c = print_refused _ _ _ _ _ _ c.in-Err.is c.refuse.ensures
