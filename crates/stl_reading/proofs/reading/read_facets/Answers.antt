-- `stl::reading::read_facets` meets its contract: the triangles that are left pass exactly when all do, and their corners are put from where they go on.
use Rattle.std.proofs.Common.{not}
use Prim.Native.Nat.{ℕ, ◌+◌, ◌*◌}
use native.Mathlib.Nat.{sub-zero}
use native.Mathlib.Omega.{arith}
use mathlib.Core.Path.{◌≡◌, refl, sym, ap, ◌∙◌}
use mathlib.Core.List.{List}
use mathlib.Core.Bool.{Bool, ◌&&◌, false≢true}
use Rattle.lists.proofs.Bools.{yes, no, and_eq}
use Rattle.floats.specs.Floats.{f32}
use Rattle.slopes.specs.declared.Vertex.{Vertex}
use Rattle.corners.specs.Corners.{vertex_ok}
use Rattle.stl.specs.Files.{vertex_from}
use Rattle.stl_reading.specs.declared.reading.Patterns.{Patterns}
use Rattle.stl_reading.specs.Steps.{patterns_from, pattern_vertex}
use Rattle.stl_reading.proofs.ReadingLaws.{begun, more, ended, facet_passes, facet_fails, all_passed}
use borrow.Author.Rules.{rules}
use Rattle.stl_reading.proofs.reading.read_facets.Goals as goal

-- the corners at hand, tested
tested : (file : List ℕ) (at : ℕ) {a b c : Patterns} {x y z : Bool}
    → x ≡ vertex_ok (pattern_vertex a)
    → a ≡ patterns_from file (at + 12)
    → y ≡ vertex_ok (pattern_vertex b)
    → b ≡ patterns_from file (at + 24)
    → z ≡ vertex_ok (pattern_vertex c)
    → c ≡ patterns_from file (at + 36)
    → x && (y && z) ≡ vertex_ok (vertex_from file (at + 12)) && (vertex_ok (vertex_from file (at + 24)) && vertex_ok (vertex_from file (at + 36)))
tested file at ex ea ey eb ez ec =
    and_eq (ex ∙ ap (λ p. vertex_ok (pattern_vertex p)) ea)
    (and_eq (ey ∙ ap (λ p. vertex_ok (pattern_vertex p)) eb) (ez ∙ ap (λ p. vertex_ok (pattern_vertex p)) ec))

pub loop-i-init : goal.loop-i-init
loop-i-init c = (search rules, rw sub-zero, begun _ _ _ _, begun _ _ _ _, begun _ _ _ _)

pub returns-then-not-passes : goal.returns-then-not-passes
returns-then-not-passes c =
    let v = c.loop-i.invariant in
    record {
      value =
          sym (v.1
          ∙ facet_fails c.args.file.now c.args.count c.loop-i.i c.loop-i-test.true _ refl
          (no (tested c.args.file.now (84 + 50 * c.loop-i.i) c.passes.ensures c.read_patterns-a.ensures
          c.passes-in-loop-i.ensures c.read_patterns-b.ensures c.passes-in-loop-i-2.ensures c.read_patterns-c.ensures) (ap not c.if-not-passes.true)));
      column_read = record { long = v.2.long; written = λ e h. absurd (false≢true e) };
      column_read_2 = record { long = v.3.long; written = λ e h. absurd (false≢true e) };
      column_read_3 = record { long = v.4.long; written = λ e h. absurd (false≢true e) };
    }

pub put_three-requires-in-loop-i-2 : goal.put_three-requires-in-loop-i-2
put_three-requires-in-loop-i-2 c = omega (arith, c.loop-i-test.true, c.requires.1)

pub loop-i-preserved : goal.loop-i-preserved
loop-i-preserved c =
    let a = c.args in
    let h = c.loop-i-test.true in
    let v = c.loop-i.invariant in
    let one = c.read_patterns-a.ensures in
    let two = c.read_patterns-b.ensures in
    let three = c.read_patterns-c.ensures in
    let on = more a.file.now a.count c.loop-i.i in (
      omega arith,
      v.1
          ∙ facet_passes a.file.now a.count c.loop-i.i h _ refl
          (yes (tested c.args.file.now (84 + 50 * c.loop-i.i) c.passes.ensures c.read_patterns-a.ensures
          c.passes-in-loop-i.ensures c.read_patterns-b.ensures c.passes-in-loop-i-2.ensures c.read_patterns-c.ensures) (ap not c.if-not-passes.false)),
      on (λ (w : Vertex). w.x.0) _ _ _ _ _ _ h v.2 (ap (λ p. f32 p.x) one) (ap (λ p. f32 p.x) two) (ap (λ p. f32 p.x) three)
          c.put_three.ensures c.put_three.auto.list,
      on (λ (w : Vertex). w.y.0) _ _ _ _ _ _ h v.3 (ap (λ p. f32 p.y) one) (ap (λ p. f32 p.y) two) (ap (λ p. f32 p.y) three)
          c.put_three-in-loop-i.ensures c.put_three-in-loop-i.auto.list,
      on (λ (w : Vertex). w.z.0) _ _ _ _ _ _ h v.4 (ap (λ p. f32 p.z) one) (ap (λ p. f32 p.z) two) (ap (λ p. f32 p.z) three)
          c.put_three-in-loop-i-2.ensures c.put_three-in-loop-i-2.auto.list,
    )

pub returns : goal.returns
returns c =
    let a = c.args in
    let v = c.loop-i.invariant in
    let done = ended a.file.now a.count c.loop-i.i (omega arith) in
    record {
      value = sym (v.1 ∙ all_passed a.file.now a.count c.loop-i.i (omega arith));
      column_read = done _ _ _ v.2;
      column_read_2 = done _ _ _ v.3;
      column_read_3 = done _ _ _ v.4;
    }
