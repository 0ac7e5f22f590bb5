-- `thinning::lighten` meets its contract, by the kind of march and the room for its marks.
-- Assumes nothing.
use mathlib.Core.Bool.{true, false}
use lib.ListN.{length}
use Rattle.thinning.proofs.Forgetting.{kind_lean, kind_by, lean_stays, marks_stay, goes_lean}
use Rattle.thinning.proofs.lighten.Goals as goal

pub returns-then-lean : goal.returns-then-lean
returns-then-lean c =
    let a = c.args in
    let e = c.if-lean.true in
    record {
      kind = kind_lean a.lean (length a.keys.now) a.rows a.waiting e;
      lists = lean_stays _ _ _ _ _ _ e;
    }

pub returns-then-has_room : goal.returns-then-has_room
returns-then-has_room c =
    let a = c.args in
    let e = c.if-lean.false in
    record {
      kind = kind_by a.lean (length a.keys.now) a.rows a.waiting e _ c.has_room.ensures true c.if-has_room.true;
      lists = marks_stay _ _ _ _ _ _ e;
    }

pub returns : goal.returns
returns c =
    let a = c.args in
    let e = c.if-lean.false in record {
      kind = kind_by a.lean (length a.keys.now) a.rows a.waiting e _ c.has_room.ensures false c.if-has_room.false;
      lists = goes_lean _ _ _ _ _ _ e _ _ c.thin.ensures;
    }
