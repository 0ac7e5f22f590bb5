-- `esdf::tidy` meets its contract: the lists stay, or each is cleared.
-- Assumes nothing.
use Rattle.std.proofs.Common.{sym, ◌∙◌}
use Rattle.esdf.proofs.Computing.{stays, wiped}
use Rattle.esdf.proofs.tidy.Goals as goal

pub returns-else-is_err : goal.returns-else-is_err
returns-else-is_err c =
    let e = sym c.is_err.ensures.value ∙ c.if-is_err.false in
    record {
      keys_after = stays _ _ _ e;
      distances_after = stays _ _ _ e;
      estimates_after = stays _ _ _ e;
      cells_after = stays _ _ _ e;
    }

pub returns-then-is_err : goal.returns-then-is_err
returns-then-is_err c =
    let e = sym c.is_err.ensures.value ∙ c.if-is_err.true in
    let w = c.clear.ensures in
    record {
      keys_after = wiped _ _ _ _ e w.keys_after;
      distances_after = wiped _ _ _ _ e w.distances_after;
      estimates_after = wiped _ _ _ _ e w.estimates_after;
      cells_after = wiped _ _ _ _ e w.cells_after;
    }
