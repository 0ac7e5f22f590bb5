-- `winding::is_in_front` meets its contract.
-- Assumes nothing.
use Rattle.winding.proofs.SpotLaws.{by_terms}
use Rattle.winding.proofs.is_in_front.Goals as goal

pub returns : goal.returns
returns c =
    by_terms c.halfway_of-first.ensures.value c.halfway_of-second.ensures.value c.halfway_of-third.ensures.value c.halfway_of-own.ensures.value
    c.plus_terms.ensures c.plus_terms-2.ensures
