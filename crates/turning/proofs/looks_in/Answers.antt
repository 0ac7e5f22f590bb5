-- `turning::looks_in` meets its contract.
-- Assumes nothing.
use Rattle.turning.proofs.TurnLaws.{by_inner}
use Rattle.turning.specs.Steps.{looks_at}
use Rattle.turning.proofs.looks_in.Goals as goal

pub returns : goal.returns
unfolding looks_at
returns c =
    let inner = c.inside_one-inner in
    by_inner _ _ _ c.is_in_front.ensures inner.ensures
