-- `tsdf_questions::look_up` meets its contract: a table that passed is as `row_of` asks.
-- Assumes nothing.
use mathlib.Core.Path.{◌∙◌, sym}
use Rattle.tsdf_questions.proofs.Answers.{accepted}
use Rattle.tsdf_questions.proofs.look_up.Goals as goal

pub row_of-requires : goal.row_of-requires
row_of-requires c = accepted _ _ _ _ _ (sym c.check_table.ensures ∙ c.in_ok-check_table.was)
