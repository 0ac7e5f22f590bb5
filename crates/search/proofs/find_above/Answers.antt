-- `search::find_above` meets its contract: the key is looked for at the place where the search ends.
-- Assumes nothing.
use Prim.Native.Nat.{ℕ}
use mathlib.Core.List.{List}
use mathlib.Core.Path.{◌≡◌, ap, ◌∙◌}
use lib.ListN.{length}
use Rattle.search.specs.Keys.{halving}
use Rattle.search.specs.Nearby.{end_above, place_above}
use Rattle.search.proofs.NearbyLaws.{above_holds, stands_here, stands_another, stands_past}
use Rattle.search.proofs.find_above.Goals as goal

-- the place where the search ends
place : (ks : List ℕ) (k from : ℕ) {p end : ℕ} → p ≡ halving (length ks) k ks from end → end ≡ end_above k ks from → p ≡ place_above k ks from
place ks k from p e = p ∙ ap (halving (length ks) k ks from) e

pub place_between-place-requires : goal.place_between-place-requires
place_between-place-requires c =
    let a = c.args in
    rw c.end_above.ensures (above_holds a.key a.keys.now a.from).1

pub returns-then-keys-place : goal.returns-then-keys-place
returns-then-keys-place c =
    let p = place c.args.keys.now c.args.key c.args.from c.place_between-place.ensures c.end_above.ensures in
    stands_here _ _ _ _ p c.if-place-keys.true c.if-keys-place.true

pub returns-else-keys-place : goal.returns-else-keys-place
returns-else-keys-place c = let p = place c.args.keys.now c.args.key c.args.from c.place_between-place.ensures c.end_above.ensures in stands_another _ _ _ _ p c.if-keys-place.false

pub returns-else-place-keys : goal.returns-else-place-keys
returns-else-place-keys c = let p = place c.args.keys.now c.args.key c.args.from c.place_between-place.ensures c.end_above.ensures in stands_past _ _ _ _ p c.if-place-keys.false
