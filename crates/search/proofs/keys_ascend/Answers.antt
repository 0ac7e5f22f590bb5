-- `search::keys_ascend` meets its contract: each pair of neighbours is asked.
-- Assumes nothing.
use mathlib.Core.Path.{ap, ◌∙◌}
use lib.Dec.{ltb}
use lib.ListN.{take}
use borrow.Author.Rules.{rules}
use Rattle.std.proofs.lemmas.Fn.{always_returns_same}
use Rattle.search.specs.Keys.{ascending}
use Rattle.search.proofs.KeyLaws.{sorted_answer, take_least}
use Rattle.search.proofs.keys_ascend.Goals as goal

pub returns : goal.returns
returns c =
    sorted_answer (take c.min.result c.args.keys.now) _ (c.is_sorted_by.ensures.cases ltb (always_returns_same _ _ _ (λ a r f k. search rules)))
    ∙ ap ascending (rw c.min.ensures (take_least c.args.count c.args.keys.now))
