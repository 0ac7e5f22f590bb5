-- `fronts::wait_lean` meets its contract: another stored neighbour that has spread tells that a cell waits.
-- Assumes nothing.
use Rattle.fronts.proofs.Marking.{lean_already, lean_full, lean_placed}
use Rattle.fronts.proofs.wait_lean.Goals as goal

pub returns-then-other_spread : goal.returns-then-other_spread
returns-then-other_spread c =
    λ st h told room.
    lean_already _ _ _ _ _ c.requires.keys_value.1.0 st _ _ _ _ _ h told _ c.requires.keys_value.0 _ (c.other_spread.ensures _ _ h.marked)
    c.if-other_spread.true

pub returns-then-cells-waiting : goal.returns-then-cells-waiting
returns-then-cells-waiting c =
    λ st h told room.
    lean_full _ _ _ _ _ c.requires.keys_value.1.0 st _ _ _ _ _ h told _ c.requires.keys_value.0 _ (c.other_spread.ensures _ _ h.marked) c.if-other_spread.false
    c.if-cells-waiting.true

pub returns : goal.returns
returns c =
    λ st h told room.
    lean_placed _ _ _ _ _ c.requires.keys_value.1.0 st _ _ _ _ _ h told _ c.requires.keys_value.0 _ (c.other_spread.ensures _ _ h.marked)
    c.if-other_spread.false
    c.if-cells-waiting.false c.requires.keys_value.1.1 _ _ c.push.ensures
