-- `search::end_above` meets its contract: the first of three that is reached says where.
-- Assumes nothing.
use mathlib.Core.Path.{◌∙◌}
use Rattle.search.proofs.NearbyLaws.{nearer_found, nearer_not}
use Rattle.search.proofs.end_above.Goals as goal

pub returns-then-near-keys : goal.returns-then-near-keys
returns-then-near-keys c =
    let a = c.args in
    nearer_found a.key a.keys.now a.from 16 _ c.nearer-near.ensures c.if-near-keys.true _

pub returns-then-middle-keys : goal.returns-then-middle-keys
returns-then-middle-keys c =
    let a = c.args in
    nearer_found a.key a.keys.now a.from 256 _ c.nearer-middle.ensures c.if-middle-keys.true _
    ∙ nearer_not a.key a.keys.now a.from 16 _ c.nearer-near.ensures c.if-near-keys.false _

pub returns : goal.returns
returns c =
    let a = c.args in
    c.nearer.ensures
    ∙ nearer_not a.key a.keys.now a.from 256 _ c.nearer-middle.ensures c.if-middle-keys.false _
    ∙ nearer_not a.key a.keys.now a.from 16 _ c.nearer-near.ensures c.if-near-keys.false _
