-- `stl::writing::write_file` meets its contract: header, count and triangles one after the other.
-- Assumes nothing.
use mathlib.Core.Path.{refl}
use lib.ListN.{length}
use Rattle.lists.specs.Lists.{joined}
use Rattle.words.specs.Words.{zeros, bytes_of}
use Rattle.stl.specs.Files.{facet_bytes, file_of}
use Rattle.stl.specs.Calls.{facets_lent}
use Rattle.stl.proofs.WritingLaws.{three_parts}
use Rattle.stl.proofs.AnswerLaws.{facets_length}
use Rattle.stl_writing.proofs.writing.write_file.Goals as goal

pub returns : goal.returns
unfolding file_of
returns c =
    let a = c.args in
    let fs = facets_lent a.vertices.now.first.now a.vertices.now.second.now a.vertices.now.third.now a.vertices.now.count a.triangles.now.first.now a.triangles.now.second.now a.triangles.now.third.now a.triangles.now.count in
    three_parts a.file.now 0 (zeros 80) 80 (bytes_of (length fs)) 84 (joined facet_bytes fs)
    c.write_zeros.ensures refl
    (rw (facets_length _ _ _ _ _ _ _ _ c.requires.triangles) c.write_word.ensures) refl
    c.write_facets.ensures
