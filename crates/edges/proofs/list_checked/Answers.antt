-- `edges::list_checked` meets its contract: what the tests refuse leaves nothing to keep, and what was listed from the front stands there where it has room.
-- Assumes nothing.
use Rattle.std.proofs.lemmas.Result.{err_from_is_err_and}
use Rattle.table.specs.Table.{rows_of}
use Rattle.edges.specs.Surfaces.{edges_on}
use Rattle.edges.specs.Listing.{answer_if, firsts, seconds}
use Rattle.lists.proofs.Held.{refused_held}
use Rattle.edges.proofs.AnswerLaws.{outputs_same, answer_room, firsts_held, seconds_held}
use Rattle.edges.proofs.list_checked.Goals as goal

pub returns-in_err-verdict : goal.returns-in_err-verdict
unfolding answer_if
returns-in_err-verdict c =
    let a = c.args in
    let es = edges_on a.surface (rows_of a.rows.now.keys.now a.rows.now.distances.now a.rows.now.weights.now a.rows.now.count) in
    let p = err_from_is_err_and c.from_residual.result c.from_residual.ensures.1 in
    record {
      value = rw (p.1, p.2, c.in_err-verdict.was);
      first_after = rw p.1 (refused_held 0 _ a.first.now (firsts es));
      second_after = rw p.1 (refused_held 0 _ a.second.now (seconds es));
    }

pub list_edges-n-requires : goal.list_edges-n-requires
list_edges-n-requires c =
    let p = c.requires c.in_ok-verdict.was in
    (p.0, outputs_same _ _ p.1)

pub returns : goal.returns
returns c =
    let passed = c.in_ok-verdict.was in
    let w = c.list_edges-n.ensures in
    let e = c.room_for.ensures in
    record {
      value = rw passed (answer_room _ _ _ _ _ _ w _ e);
      first_after = firsts_held _ _ _ _ _ _ w _ e;
      second_after = seconds_held _ _ _ _ _ _ w _ e (outputs_same _ _ (c.requires passed).1);
    }
