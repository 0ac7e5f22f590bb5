-- `edges::is_listed` meets its contract: the neighbour is looked up where the row's key is the smaller.
-- Assumes nothing.
use mathlib.Core.Path.{◌∙◌}
use Rattle.edges.proofs.ListingLaws.{place_below, not_smaller, not_stored, both_stored}
use Rattle.edges.proofs.is_listed.Goals as goal

pub returns-then-key-keys : goal.returns-then-key-keys
returns-then-key-keys c = not_smaller _ _ _ _ c.requires.0 _ _ _ c.if-key-keys.true

pub find_beside-requires : goal.find_beside-requires
find_beside-requires c = (c.requires.0.fits, c.requires.0.rising, c.requires.1, c.if-key-keys.false)

pub returns-in_default : goal.returns-in_default
returns-in_default c = not_stored _ _ _ _ c.requires.0 _ _ _ c.if-key-keys.false _ c.find_beside.ensures c.in_default.is

pub crosses_at-requires : goal.crosses_at-requires
crosses_at-requires c =
    (c.requires.0, c.requires.1, place_below _ _ _ _ c.requires.0 _ _ c.find_beside.ensures _ c.in-Some.is)

pub returns : goal.returns
returns c = c.crosses_at.ensures ∙ both_stored _ _ _ _ c.requires.0 _ _ _ c.if-key-keys.false _ c.find_beside.ensures _ c.in-Some.is
