-- `edges::find_beside` meets its contract: on ascending keys the search from past a row finds what the search of all finds.
-- Assumes nothing.
use mathlib.Core.Path.{sym, ◌∙◌}
use lib.Seq.{length-take-le}
use Rattle.search.proofs.NearbyLaws.{found_above_lem}
use Rattle.edges.proofs.find_beside.Goals as goal

pub slice_bounds-find_above-end : goal.slice_bounds-find_above-end
slice_bounds-find_above-end c = sym (length-take-le c.args.count c.args.keys.now c.requires.0)

pub returns : goal.returns
returns c =
    c.find_above.ensures
    ∙ found_above_lem c.args.key c.args.keys.now c.args.count c.args.row c.requires.0 c.requires.1 c.requires.2 c.requires.3
