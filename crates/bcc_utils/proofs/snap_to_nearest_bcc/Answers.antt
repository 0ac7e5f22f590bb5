-- `bcc_utils::snap_to_nearest_bcc` meets its contract: each branch is one of the definition's. Assumes nothing.
use Rattle.bcc_utils.specs.Snapping.{snapped}
use Rattle.bcc_utils.proofs.snap_to_nearest_bcc.Goals as goal

pub returns-then-is_valid_bcc : goal.returns-then-is_valid_bcc
unfolding snapped
returns-then-is_valid_bcc c = rw (← c.is_valid_bcc.ensures, c.if-is_valid_bcc.true)

pub returns-then-has_end : goal.returns-then-has_end
unfolding snapped
returns-then-has_end c = rw (← c.is_valid_bcc.ensures, c.if-is_valid_bcc.false, ← c.has_end.ensures, c.if-has_end.true)

pub returns-else-has_end : goal.returns-else-has_end
unfolding snapped
returns-else-has_end c =
    rw (
      c.nearest_candidate.ensures,
      ← c.is_valid_bcc.ensures,
      c.if-is_valid_bcc.false,
      ← c.has_end.ensures,
      c.if-has_end.false,
    )
