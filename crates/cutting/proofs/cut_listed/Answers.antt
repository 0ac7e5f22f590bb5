-- `cutting::cut_listed` meets its contract: what was put from the front stands there where it has room.
-- Assumes nothing.
use Rattle.std.proofs.Common.{ap, not}
use Rattle.lists.proofs.Bools.{yes, no}
use Rattle.cutting.proofs.ClosedLaws.{even_three, put_cut, refused_cut}
use Rattle.cutting.proofs.cut_listed.Goals as goal

pub returns-then-not-three_ok : goal.returns-then-not-three_ok
returns-then-not-three_ok c = refused_cut _ _ _ _ _ _ (rw (no c.three_ok.ensures (ap not c.if-not-three_ok.true)))

pub cut_rows-n-requires : goal.cut_rows-n-requires
cut_rows-n-requires c =
    let e = even_three _ _ _ (yes c.three_ok.ensures (ap not c.if-not-three_ok.false)) in
    (c.requires, record { second = e.0; third = e.1 })

pub returns : goal.returns
returns c =
    let ok = yes c.three_ok.ensures (ap not c.if-not-three_ok.false) in
    let w = c.cut_rows-n.ensures in
    let m = c.args.edges in
    put_cut _ _ _ _ _ _ _ _ w ok _ c.room_for.ensures m
