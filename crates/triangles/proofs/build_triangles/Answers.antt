-- `triangles::build_triangles` meets its contract: what was filled is kept where the answer counts it, and cleared elsewhere.
-- Assumes nothing.
use lib.ListN.{length}
use Rattle.triangles.proofs.AnswerLaws.{ready_known, built_answer_lem, groups_settled, ones_settled, twos_settled, threes_settled}
use Rattle.triangles.proofs.build_triangles.Goals as goal

pub fill-filled-requires : goal.fill-filled-requires
fill-filled-requires c =
    let a = c.args in
    ready_known a.keys.now a.rows (length a.first.now) (length a.second.now) a.edges
    (length a.groups.now) a.t0.now a.t1.now a.t2.now
    c.lengths_ok-ok.result
    c.rows_taken-n.result
    c.lengths_ok-ok.ensures
    c.rows_taken-n.ensures

pub returns : goal.returns
returns c =
    let a = c.args in
    let f = c.fill-filled.ensures in
    let l = c.fill-filled.new in
    record {
      value = built_answer_lem a.keys.now a.rows a.first.now a.second.now a.edges a.groups.now a.t0.now a.t1.now a.t2.now
          c.lengths_ok-ok.result c.rows_taken-n.result c.fill-filled.result c.answer-listed.result l.groups l.t0 l.t1 l.t2
          c.lengths_ok-ok.ensures c.rows_taken-n.ensures f.value f.groups_after f.t0_after f.t1_after f.t2_after
          c.answer-listed.ensures;
      groups_after = groups_settled a.keys.now a.rows a.first.now a.second.now a.edges a.groups.now a.t0.now a.t1.now a.t2.now
          c.lengths_ok-ok.result c.rows_taken-n.result c.fill-filled.result c.answer-listed.result l.groups l.t0 l.t1 l.t2
          c.lengths_ok-ok.ensures c.rows_taken-n.ensures f.value f.groups_after f.t0_after f.t1_after f.t2_after
          c.answer-listed.ensures _ c.kept-numbers.ensures _ c.clear_from.ensures;
      t0_after = ones_settled a.keys.now a.rows a.first.now a.second.now a.edges a.groups.now a.t0.now a.t1.now a.t2.now
          c.lengths_ok-ok.result c.rows_taken-n.result c.fill-filled.result c.answer-listed.result l.groups l.t0 l.t1 l.t2
          c.lengths_ok-ok.ensures c.rows_taken-n.ensures f.value f.groups_after f.t0_after f.t1_after f.t2_after
          c.answer-listed.ensures _ c.count_of-count.ensures _ c.clear_from-2.ensures;
      t1_after = twos_settled a.keys.now a.rows a.first.now a.second.now a.edges a.groups.now a.t0.now a.t1.now a.t2.now
          c.lengths_ok-ok.result c.rows_taken-n.result c.fill-filled.result c.answer-listed.result l.groups l.t0 l.t1 l.t2
          c.lengths_ok-ok.ensures c.rows_taken-n.ensures f.value f.groups_after f.t0_after f.t1_after f.t2_after
          c.answer-listed.ensures _ c.count_of-count.ensures _ c.clear_from-3.ensures;
      t2_after = threes_settled a.keys.now a.rows a.first.now a.second.now a.edges a.groups.now a.t0.now a.t1.now a.t2.now
          c.lengths_ok-ok.result c.rows_taken-n.result c.fill-filled.result c.answer-listed.result l.groups l.t0 l.t1 l.t2
          c.lengths_ok-ok.ensures c.rows_taken-n.ensures f.value f.groups_after f.t0_after f.t1_after f.t2_after
          c.answer-listed.ensures _ c.count_of-count.ensures _ c.clear_from-4.ensures;
    }
