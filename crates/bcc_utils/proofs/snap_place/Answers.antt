-- `bcc_utils::snap_place` meets its contract: each `match` is one of the definition's, and a rounded number is read
-- back from its bits, since it fits. Assumes nothing.
use Rattle.bcc_utils.specs.Metres.{place_snapped}
use mathlib.Core.Path.{◌≡◌}
use mir.Syntax.{w32}
use mir.Val.{to_z, of_z}
use borrow.Author.Rules.{rules}
use Rattle.bcc_utils.proofs.snap_place.Goals as goal

pub returns-in-Err : goal.returns-in-Err
unfolding place_snapped
returns-in-Err c = rw (← c.cells_of.ensures, c.in-Err.is)

pub returns-in-Err-cells_of : goal.returns-in-Err-cells_of
unfolding place_snapped
returns-in-Err-cells_of c =
    rw (
      ← c.cells_of.ensures,
      c.in-Ok.is,
      ← c.cells_of-in-Ok.ensures,
      c.in-Err-cells_of.is,
    )

pub returns-in-Err-cells_of-2 : goal.returns-in-Err-cells_of-2
unfolding place_snapped
returns-in-Err-cells_of-2 c =
    rw (
      ← c.cells_of.ensures,
      c.in-Ok.is,
      ← c.cells_of-in-Ok.ensures,
      c.in-Ok-cells_of.is,
      ← c.cells_of-in-Ok-cells_of.ensures,
      c.in-Err-cells_of-2.is,
    )

pub returns-in-Ok-cells_of-2 : goal.returns-in-Ok-cells_of-2
unfolding place_snapped
returns-in-Ok-cells_of-2 c =
    let a = c.in-Ok.a in
    let b = c.in-Ok-cells_of.b in
    let d = c.in-Ok-cells_of-2.c in
    let ha : to_z w32 (of_z w32 a) ≡ a = search rules in
    let hb : to_z w32 (of_z w32 b) ≡ b = search rules in
    let hd : to_z w32 (of_z w32 d) ≡ d = search rules in
    rw (
      c.snap_to_nearest_bcc.ensures,
      ← c.cells_of.ensures,
      c.in-Ok.is,
      ← c.cells_of-in-Ok.ensures,
      c.in-Ok-cells_of.is,
      ← c.cells_of-in-Ok-cells_of.ensures,
      c.in-Ok-cells_of-2.is,
      ha,
      hb,
      hd,
    )
