-- `stl::writing::write_facet` meets its contract: part by part.
-- Assumes nothing.
use Prim.Native.Nat.{◌+◌}
use native.Mathlib.Omega.{arith}
use mathlib.Core.Path.{refl}
use Rattle.words.specs.Words.{zeros}
use Rattle.stl.specs.Files.{vertex_bytes, facet_bytes}
use Rattle.stl.proofs.WritingLaws.{five_parts}
use Rattle.stl_writing.proofs.writing.write_facet.Goals as goal

pub returns : goal.returns
unfolding facet_bytes
returns c =
    let a = c.args in
    five_parts a.file.now a.at (zeros 12) (a.at + 12) (vertex_bytes a.a) (a.at + 24) (vertex_bytes a.b) (a.at + 36)
    (vertex_bytes a.c) (a.at + 48) (zeros 2)
    c.write_zeros.ensures refl
    c.write_vertex.ensures (omega arith)
    c.write_vertex-2.ensures (omega arith)
    c.write_vertex-3.ensures (omega arith)
    c.write_zeros-2.ensures
