-- `search::start_near` meets its contract: the first of three that is reached says where.
-- Assumes nothing.
use mathlib.Core.Path.{◌∙◌}
use Rattle.search.proofs.NearbyLaws.{behind_found, behind_not}
use Rattle.search.proofs.start_near.Goals as goal

pub returns-then-here-gt0 : goal.returns-then-here-gt0
returns-then-here-gt0 c =
    let a = c.args in
    behind_found a.key a.keys.now a.from 0 _ c.behind-here.ensures c.if-here-gt0.true _

pub returns-then-back-gt0 : goal.returns-then-back-gt0
returns-then-back-gt0 c =
    let a = c.args in
    behind_found a.key a.keys.now a.from 16 _ c.behind-back.ensures c.if-back-gt0.true _
    ∙ behind_not a.key a.keys.now a.from 0 _ c.behind-here.ensures c.if-here-gt0.false _

pub returns : goal.returns
returns c =
    let a = c.args in
    c.behind.ensures
    ∙ behind_not a.key a.keys.now a.from 16 _ c.behind-back.ensures c.if-back-gt0.false _
    ∙ behind_not a.key a.keys.now a.from 0 _ c.behind-here.ensures c.if-here-gt0.false _
