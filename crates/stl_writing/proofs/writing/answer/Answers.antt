-- `stl::writing::answer` meets its contract: the lengths are tested, then the vertices and the triangles, then the room.
-- Assumes nothing.
use Rattle.std.proofs.Common.{ap, not}
use native.Mathlib.Omega.{arith}
use mathlib.Core.Path.{refl}
use Rattle.lists.proofs.Bools.{yes, no, and_eq}
use Rattle.stl.specs.Calls.{export_answer}
use Rattle.stl.proofs.AnswerLaws.{sets_lent}
use Rattle.stl_writing.proofs.writing.answer.Goals as goal

pub returns-then-not-is_ok-room : goal.returns-then-not-is_ok-room
unfolding export_answer
returns-then-not-is_ok-room c = rw (no (and_eq c.is_ok.ensures (and_eq c.is_ok-2.ensures refl)) (ap not c.if-not-is_ok-room.true))

pub vertices_ok-requires : goal.vertices_ok-requires
vertices_ok-requires c =
    let a = c.args in
    (sets_lent a.vertices.now.first.now a.vertices.now.second.now a.vertices.now.third.now a.vertices.now.count a.triangles.now.first.now a.triangles.now.second.now a.triangles.now.third.now a.triangles.now.count a.room
    (yes (and_eq c.is_ok.ensures (and_eq c.is_ok-2.ensures refl)) (ap not c.if-not-is_ok-room.false))).0

pub triangles_ok-requires : goal.triangles_ok-requires
triangles_ok-requires c =
    let a = c.args in
    (sets_lent a.vertices.now.first.now a.vertices.now.second.now a.vertices.now.third.now a.vertices.now.count a.triangles.now.first.now a.triangles.now.second.now a.triangles.now.third.now a.triangles.now.count a.room
    (yes (and_eq c.is_ok.ensures (and_eq c.is_ok-2.ensures refl)) (ap not c.if-not-is_ok-room.false))).1

pub returns-then-not-vertices_ok-triangles_ok : goal.returns-then-not-vertices_ok-triangles_ok
unfolding export_answer
returns-then-not-vertices_ok-triangles_ok c =
    rw (
      yes (and_eq c.is_ok.ensures (and_eq c.is_ok-2.ensures refl)) (ap not c.if-not-is_ok-room.false),
      no (and_eq c.vertices_ok.ensures c.triangles_ok.ensures) (ap not c.if-not-vertices_ok-triangles_ok.true),
    )

pub overflow_mul-triangles : goal.overflow_mul-triangles
overflow_mul-triangles c = let a = c.args in
    omega (
      arith,
      (sets_lent a.vertices.now.first.now a.vertices.now.second.now a.vertices.now.third.now a.vertices.now.count a.triangles.now.first.now a.triangles.now.second.now a.triangles.now.third.now a.triangles.now.count a.room
          (yes (and_eq c.is_ok.ensures (and_eq c.is_ok-2.ensures refl)) (ap not c.if-not-is_ok-room.false))).2,
    )

pub overflow_add-triangles : goal.overflow_add-triangles
overflow_add-triangles c = let a = c.args in
    omega (
      arith,
      (sets_lent a.vertices.now.first.now a.vertices.now.second.now a.vertices.now.third.now a.vertices.now.count a.triangles.now.first.now a.triangles.now.second.now a.triangles.now.third.now a.triangles.now.count a.room
          (yes (and_eq c.is_ok.ensures (and_eq c.is_ok-2.ensures refl)) (ap not c.if-not-is_ok-room.false))).2,
    )

pub returns : goal.returns
unfolding export_answer
returns c =
    rw (
      yes (and_eq c.is_ok.ensures (and_eq c.is_ok-2.ensures refl)) (ap not c.if-not-is_ok-room.false),
      yes (and_eq c.vertices_ok.ensures c.triangles_ok.ensures) (ap not c.if-not-vertices_ok-triangles_ok.false),
      c.room_for.ensures,
    )
