-- `edges::list_tested` meets its contract: what is listed stays, and the rest is cleared.
-- Assumes nothing.
use Rattle.edges.proofs.AnswerLaws.{cleared_held}
use Rattle.edges.proofs.list_tested.Goals as goal

pub returns : goal.returns
returns c =
    let n = c.count_of-n.ensures in
    let done = c.list_checked-listed.ensures in
    record {
      value = done.value;
      first_after = cleared_held _ _ n _ _ _ _ c.clear_from.ensures done.first_after;
      second_after = cleared_held _ _ n _ _ _ _ c.clear_from-2.ensures done.second_after;
    }
