-- `surfaces::bounding_box` meets its contract: the lengths are tested, then the vertices, then the box is worked out.
-- Assumes nothing.
use Rattle.std.proofs.Common.{ap, not}
use Rattle.lists.proofs.Bools.{yes, no}
use Rattle.surfaces.specs.Boxes.{box_answer}
use Rattle.corners.proofs.Sets.{lent}
use Rattle.surfaces.proofs.bounding_box.Goals as goal

pub returns-then-not-is_ok : goal.returns-then-not-is_ok
unfolding box_answer
returns-then-not-is_ok c = rw (no c.is_ok.ensures (ap not c.if-not-is_ok.true))

pub vertices_ok-requires : goal.vertices_ok-requires
vertices_ok-requires c = lent _ _ _ _ (yes c.is_ok.ensures (ap not c.if-not-is_ok.false))

pub returns-then-not-vertices_ok : goal.returns-then-not-vertices_ok
unfolding box_answer
returns-then-not-vertices_ok c = rw (yes c.is_ok.ensures (ap not c.if-not-is_ok.false), no c.vertices_ok.ensures (ap not c.if-not-vertices_ok.true))

pub box_of-requires : goal.box_of-requires
box_of-requires c = lent _ _ _ _ (yes c.is_ok.ensures (ap not c.if-not-is_ok.false))

pub returns : goal.returns
unfolding box_answer
returns c =
    rw (
      yes c.is_ok.ensures (ap not c.if-not-is_ok.false),
      yes c.vertices_ok.ensures (ap not c.if-not-vertices_ok.false),
      c.box_of.ensures,
    )
