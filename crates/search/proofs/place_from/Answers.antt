-- `search::place_from` meets its contract: it begins and ends where the definition does.
-- Assumes nothing.
use Rattle.search.proofs.NearbyLaws.{above_holds}
use Rattle.search.proofs.place_from.Goals as goal

pub place_between-requires : goal.place_between-requires
place_between-requires c =
    let a = c.args in
    rw c.end_above.ensures (above_holds a.key a.keys.now c.start_near-start.result).1
