-- `stl::writing::write_vertex` meets its contract: float by float; none is a NaN.
-- Assumes nothing.
use Prim.Native.Nat.{ℕ, ◌+◌}
use native.Mathlib.Omega.{arith}
use mathlib.Core.Path.{refl}
use mathlib.Core.List.{List}
use lib.Ieee.{Float, binary32, to_bits}
use Rattle.words.specs.Words.{bytes_of}
use Rattle.stl.proofs.WritingLaws.{three_parts, numbers}
use Rattle.stl_writing.proofs.writing.write_vertex.Goals as goal

pub float_to_bits-v : goal.float_to_bits-v
float_to_bits-v c = rw (numbers _ c.requires.v_value).x tt

pub float_to_bits-v-2 : goal.float_to_bits-v-2
float_to_bits-v-2 c = rw (numbers _ c.requires.v_value).y tt

pub float_to_bits-v-3 : goal.float_to_bits-v-3
float_to_bits-v-3 c = rw (numbers _ c.requires.v_value).z tt

pub returns : goal.returns
returns c =
    let a = c.args in
    let bytes : Float → List ℕ = λ x. bytes_of (to_bits binary32 x) in
    three_parts a.file.now a.at (bytes a.v.x.0) (a.at + 4) (bytes a.v.y.0) (a.at + 8) (bytes a.v.z.0)
    c.write_word.ensures refl c.write_word-2.ensures (omega arith) c.write_word-3.ensures
