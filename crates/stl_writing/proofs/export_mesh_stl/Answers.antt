-- `stl::export_mesh_stl` meets its contract: the file is written where the answer counts, and the rest is cleared.
-- Assumes nothing.
use Rattle.std.specs.Prelude.{Ok}
use Prim.Native.Nat.{ℕ}
use native.Mathlib.Omega.{arith}
use mathlib.Core.Path.{◌≡◌, refl, ap, ◌∙◌}
use lib.ListN.{length}
use lib.Seq.{sets}
use Rattle.lists.specs.Listing.{count_of}
use Rattle.stl.specs.Files.{file_of}
use Rattle.stl.specs.Calls.{facets_lent, export_answer}
use Rattle.stl.proofs.AnswerLaws.{counted_writable, none_counted, export_few, export_held}
use Rattle.stl_writing.proofs.export_mesh_stl.Goals.{then-n-gt0, else-n-gt0}
use Rattle.stl_writing.proofs.export_mesh_stl.Goals as goal

pub write_file-requires : goal.write_file-requires
write_file-requires c =
    let answered = c.answer-answer.ensures in
    let n = c.count_of-n.ensures ∙ ap count_of answered in
    counted_writable _ _ _ _ _ _ _ _ _ (omega (arith, c.if-n-gt0.true, n))

pub overflow_sub-file : goal.overflow_sub-file
overflow_sub-file c =
    let n = c.count_of-n.ensures ∙ ap count_of c.answer-answer.ensures in
    omega (arith, c.if-n-gt0.auto.file, export_few _ _ _ _ _ _ _ _ _ _ n)

pub write_zeros-requires : goal.write_zeros-requires
write_zeros-requires c =
    let n = c.count_of-n.ensures ∙ ap count_of c.answer-answer.ensures in
    omega (arith, c.if-n-gt0.auto.file, export_few _ _ _ _ _ _ _ _ _ _ n)

pub returns : goal.returns
returns c =
    let a = c.args in
    let answered = c.answer-answer.ensures in
    let n = c.count_of-n.ensures ∙ ap count_of answered in
    let written : (k : ℕ)
    → export_answer a.vertices.now.first.now a.vertices.now.second.now a.vertices.now.third.now a.vertices.now.count a.triangles.now.first.now a.triangles.now.second.now a.triangles.now.third.now a.triangles.now.count (length a.file.now) ≡ Ok k
    → c.if-n-gt0.file ≡ sets a.file.now 0 (file_of (facets_lent a.vertices.now.first.now a.vertices.now.second.now a.vertices.now.third.now a.vertices.now.count a.triangles.now.first.now a.triangles.now.second.now a.triangles.now.third.now a.triangles.now.count)) =
    elim c.if-n-gt0.branch [
      | then-n-gt0 w ↦ λ k g. w.file-is ∙ w.write_file.ensures
      | else-n-gt0 w ↦ λ k g. absurd (none_counted _ _ _ _ _ _ _ _ _ _ n w.if-n-gt0.false k g)
    ] in
    record {
      value = answered;
      file_after = export_held _ _ _ _ _ _ _ _ _ a.file.now c.if-n-gt0.file _ _ refl n c.if-n-gt0.auto.file written c.write_zeros.ensures;
    }
