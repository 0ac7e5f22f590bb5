-- `fronts::wait_marked` meets its contract: a cell without a mark neither is stored nor waits.
-- Assumes nothing.
use lib.Ieee.{of_bits, nan_bits}
use Rattle.fronts.proofs.Marking.{mark_full, mark_placed, waits_entered}
use Rattle.fronts.proofs.wait_marked.Goals as goal

pub returns-then-cells-waiting : goal.returns-then-cells-waiting
returns-then-cells-waiting c = λ s h few. mark_full _ _ c.requires.keys_value.1.0 s _ _ _ _ _ h _ c.requires.keys_value.0 c.if-cells-waiting.true

pub float_from_bits-enter : goal.float_from_bits-enter
unfolding nan_bits
float_from_bits-enter c = tt

pub returns : goal.returns
unfolding of_bits
returns c =
    λ st h few.
    mark_placed _ _ c.requires.keys_value.1.0 st _ _ _ _ _ h _ c.requires.keys_value.0 _ _
    (waits_entered st _ _ _ _ _ _ _ _ _ _ c.enter.ensures h few c.requires.keys_value.0)
    c.if-cells-waiting.false c.requires.keys_value.1.1 _ _ c.push.ensures
