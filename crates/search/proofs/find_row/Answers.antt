-- `search::find_row` meets its contract: the key is looked for at the place where the search by halves ends.
-- Assumes nothing.
use Rattle.search.proofs.KeyLaws.{found_here, found_another, found_past_end, found_past_count}
use Rattle.search.proofs.find_row.Goals as goal

pub returns-then-keys-place : goal.returns-then-keys-place
returns-then-keys-place c = found_here _ _ _ _ c.place_of-place.ensures c.if-place-count.true c.if-place-keys.true c.if-keys-place.true

pub returns-else-keys-place : goal.returns-else-keys-place
returns-else-keys-place c = found_another _ _ _ _ c.place_of-place.ensures c.if-place-count.true c.if-keys-place.false

pub returns-else-place-keys : goal.returns-else-place-keys
returns-else-place-keys c =
    let a = c.args in
    found_past_end _ a.keys.now a.count _ c.place_of-place.ensures c.if-place-keys.false

pub returns-else-place-count : goal.returns-else-place-count
returns-else-place-count c = found_past_count _ _ _ _ c.place_of-place.ensures c.if-place-count.false
