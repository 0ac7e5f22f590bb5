-- `edges::get_zero_crossing_edges` meets its contract: the tests of a call, then the edges by their verdict.
-- Assumes nothing.
use mathlib.Core.Path.{sym, ◌∙◌}
use lib.ListN.{length}
use Rattle.table.specs.Table.{table}
use Rattle.edges.specs.declared.Surface.TheVariants.{Open}
use Rattle.edges.proofs.AnswerLaws.{accepted, answered, held_by}
use Rattle.edges.proofs.get_zero_crossing_edges.Goals as goal

pub list_tested-requires : goal.list_tested-requires
list_tested-requires c =
    let a = c.args in
    λ t. accepted a.settings _ _ _ _ (length a.first.now) (length a.second.now) (sym c.check-verdict.ensures ∙ t)

pub returns : goal.returns
returns c =
    let verdict = c.check-verdict.ensures in
    let a = c.args in
    let t = table a.rows.now.keys.now a.rows.now.distances.now a.rows.now.weights.now a.rows.now.count in
    let done = c.list_tested.ensures in
    record {
      value = answered Open a.settings t _ _ _ verdict _ done.value;
      first_after = held_by Open a.settings t _ _ _ verdict _ done.value _ _ _ done.first_after;
      second_after = held_by Open a.settings t _ _ _ verdict _ done.value _ _ _ done.second_after;
    }
