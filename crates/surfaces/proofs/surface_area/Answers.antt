-- `surfaces::surface_area` meets its contract: the lengths are tested, then the vertices and the triangles, then the areas are added up.
-- Assumes nothing.
use Rattle.std.proofs.Common.{ap, not}
use Rattle.lists.proofs.Bools.{yes, no, and_eq, and_second}
use Rattle.corners.specs.Corners.{every, vertex_ok}
use Rattle.corners.specs.Read.{points_in}
use Rattle.surfaces.specs.Areas.{area_answer}
use Rattle.corners.proofs.Sets.{both_lent}
use Rattle.surfaces.proofs.surface_area.Goals as goal

pub returns-then-not-is_ok : goal.returns-then-not-is_ok
unfolding area_answer
returns-then-not-is_ok c = rw (no (and_eq c.is_ok.ensures c.is_ok-2.ensures) (ap not c.if-not-is_ok.true))

pub vertices_ok-requires : goal.vertices_ok-requires
vertices_ok-requires c = let a = c.args in
    (both_lent a.vertices.now.first.now a.vertices.now.second.now a.vertices.now.third.now a.vertices.now.count a.triangles.now.first.now a.triangles.now.second.now a.triangles.now.third.now a.triangles.now.count
    (yes (and_eq c.is_ok.ensures c.is_ok-2.ensures) (ap not c.if-not-is_ok.false))).0

pub triangles_ok-requires : goal.triangles_ok-requires
triangles_ok-requires c = let a = c.args in
    (both_lent a.vertices.now.first.now a.vertices.now.second.now a.vertices.now.third.now a.vertices.now.count a.triangles.now.first.now a.triangles.now.second.now a.triangles.now.third.now a.triangles.now.count
    (yes (and_eq c.is_ok.ensures c.is_ok-2.ensures) (ap not c.if-not-is_ok.false))).1

pub returns-then-not-vertices_ok-triangles_ok : goal.returns-then-not-vertices_ok-triangles_ok
unfolding area_answer
returns-then-not-vertices_ok-triangles_ok c =
    rw (
      yes (and_eq c.is_ok.ensures
          c.is_ok-2.ensures) (ap not c.if-not-is_ok.false),
      no (and_eq c.vertices_ok.ensures c.triangles_ok.ensures) (ap not c.if-not-vertices_ok-triangles_ok.true),
    )

pub area_of-requires : goal.area_of-requires
area_of-requires c =
    let a = c.args in
    let l = both_lent a.vertices.now.first.now a.vertices.now.second.now a.vertices.now.third.now a.vertices.now.count a.triangles.now.first.now a.triangles.now.second.now a.triangles.now.third.now a.triangles.now.count
    (yes (and_eq c.is_ok.ensures c.is_ok-2.ensures) (ap not c.if-not-is_ok.false)) in
    record {
      lent = l.0;
      lent_2 = l.1;
      triangles_value =
          and_second (every vertex_ok (points_in a.vertices.now)) _
          (yes (and_eq c.vertices_ok.ensures c.triangles_ok.ensures) (ap not c.if-not-vertices_ok-triangles_ok.false));
    }

pub returns : goal.returns
unfolding area_answer
returns c =
    rw (
      yes (and_eq c.is_ok.ensures c.is_ok-2.ensures)
          (ap not c.if-not-is_ok.false),
      yes (and_eq c.vertices_ok.ensures c.triangles_ok.ensures)
          (ap not c.if-not-vertices_ok-triangles_ok.false),
      c.area_of.ensures,
    )
