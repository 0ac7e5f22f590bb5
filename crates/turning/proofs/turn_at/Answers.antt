-- `turning::turn_at` meets its contract.
-- Assumes nothing.
use mathlib.Core.Path.{sym, ◌∙◌}
use lib.Seq.{set-get_or}
use Rattle.winding.specs.Winding.{turn_if}
use Rattle.turning.proofs.turn_at.Goals as goal

pub returns-then-looks_in : goal.returns-then-looks_in
unfolding turn_if
returns-then-looks_in c =
    let looks = sym c.looks_in.ensures ∙ c.if-looks_in.true in
    record {
      t1_after = rw looks;
      t2_after = rw looks;
    }

pub returns-else-looks_in : goal.returns-else-looks_in
unfolding turn_if
returns-else-looks_in c =
    let looks = sym c.looks_in.ensures ∙ c.if-looks_in.false in
    record {
      t1_after = rw looks (sym (set-get_or _ _ 0));
      t2_after = rw looks (sym (set-get_or _ _ 0));
    }
