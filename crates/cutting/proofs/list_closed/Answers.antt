-- `cutting::list_closed` meets its contract: what is listed and cut stays, and the rest is cleared.
-- Assumes nothing.
use mathlib.Core.Path.{◌∙◌}
use Rattle.table.specs.Table.{table}
use Rattle.edges.specs.Edges.{Edge}
use Rattle.cutting.proofs.ClosedLaws.{closed_answer_lem, held_closed, own_listed, cut_answered, cleared_to}
use Rattle.cutting.proofs.list_closed.Goals as goal

pub cut_checked-triangles-requires : goal.cut_checked-triangles-requires
cut_checked-triangles-requires c =
    let e = c.list_tested-edges.ensures in
    own_listed _ _ _ _ _ _ _ c.requires _ e.value _ _ e.first_after e.second_after

pub returns : goal.returns
returns c =
    let a = c.args in
    let t = table a.rows.now.keys.now a.rows.now.distances.now a.rows.now.weights.now a.rows.now.count in
    let e = c.list_tested-edges.ensures in
    let k = c.cut_checked-triangles.ensures in
    let n = c.count_of-n.ensures in
    let edges =
    e.value ∙ closed_answer_lem a.verdict a.rows.now.keys.now a.rows.now.distances.now a.rows.now.weights.now a.rows.now.count _ _ c.requires in
    let triangles = cut_answered a.verdict t _ _ _ _ _ _ edges k.answer in
    let held = held_closed a.verdict a.rows.now.keys.now a.rows.now.distances.now a.rows.now.weights.now a.rows.now.count _ _ c.requires _ e.value in
    record {
      edges = edges;
      first = held (λ (x : Edge). x.first) _ _ e.first_after;
      second = held (λ (x : Edge). x.second) _ _ e.second_after;
      triangles = triangles;
      t0 = cleared_to _ _ triangles _ n _ _ _ _ c.clear_from.ensures k.t0;
      t1 = cleared_to _ _ triangles _ n _ _ _ _ c.clear_from-2.ensures k.t1;
      t2 = cleared_to _ _ triangles _ n _ _ _ _ c.clear_from-3.ensures k.t2;
    }
