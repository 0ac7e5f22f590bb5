-- `stl::import_mesh_stl` meets its contract: the corners are read where the file passes, and what the answer does not count is cleared.
-- Assumes nothing.
use mathlib.Core.Path.{refl, ap, ◌∙◌}
use Rattle.lists.specs.Listing.{count_of}
use Rattle.slopes.specs.declared.Vertex.{Vertex}
use Rattle.stl.proofs.AnswerLaws.{stated_asks, import_answered, import_held}
use Rattle.stl_reading.proofs.import_mesh_stl.Goals as goal

pub read_facets-passed-requires : goal.read_facets-passed-requires
read_facets-passed-requires c = stated_asks _ _ _ _ _ (c.count_of.ensures ∙ ap count_of c.stated-stated.ensures)

pub returns : goal.returns
returns c =
    let a = c.args in
    let stated = c.stated-stated.ensures in
    let m = c.count_of.ensures ∙ ap count_of stated in
    let read = c.read_facets-passed.ensures in
    let answered = import_answered a.file.now _ _ _ _ _ _ _ _ stated m read.value read.column_read.long c.answer-answer.ensures in
    let n = c.count_of-n.ensures ∙ ap count_of answered in
    record {
      value = answered;
      px_after =
          import_held a.file.now _ _ _ (λ (v : Vertex). v.x.0) a.px.now _ _ _ _ _ (λ k r. refl) m read.value read.column_read n
          c.clear_from.ensures;
      py_after =
          import_held a.file.now _ _ _ (λ (v : Vertex). v.y.0) a.py.now _ _ _ _ _ (λ k r. r.second) m read.value read.column_read_2 n
          c.clear_from-2.ensures;
      pz_after =
          import_held a.file.now _ _ _ (λ (v : Vertex). v.z.0) a.pz.now _ _ _ _ _ (λ k r. r.third) m read.value read.column_read_3 n
          c.clear_from-3.ensures;
    }
