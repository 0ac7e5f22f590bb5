-- Files, computed on the definitions: a mesh of a triangle without area, with -0 and the least subnormal number, written and read; and files turned away.
-- Assumes nothing.
use Rattle.std.specs.Prelude.{Ok, Err}
use Prim.Native.Nat.{ℕ}
use mathlib.Core.Path.{◌≡◌, refl}
use mathlib.Core.List.{List, [], ◌∷◌, ◌++◌}
use lib.Ieee.{Float, le, lt, eq, neg, of_bits, to_bits}
use lib.ListN.{take}
use Rattle.lists.specs.Beside.{beside_by}
use Rattle.refusals.specs.declared.Refusal.TheVariants.{BadLength}
use Rattle.lists.specs.Lists.{joined}
use Rattle.floats.specs.Floats.{f32}
use Rattle.corners.specs.Corners.{every}
use Rattle.words.specs.Words.{zeros, bytes_of}
use Rattle.stl.specs.Files.{facet_bytes, file_of, facet_from, facets_from, facets_in}
use Rattle.stl.specs.Calls.{facets_lent, export_answer, import_answer}

-- one vertex, (-0, the least subnormal, 1), and a triangle that names it three times
abbrev xs : List Float
xs = f32 0x8000_0000 ∷ []

abbrev ys : List Float
ys = f32 1 ∷ []

abbrev zs : List Float
zs = f32 0x3F80_0000 ∷ []

abbrev none : List ℕ
none = 0 ∷ []

abbrev corner : List ℕ
corner = 0 ∷ 0 ∷ 0 ∷ 0x80 ∷ 1 ∷ 0 ∷ 0 ∷ 0 ∷ 0 ∷ 0 ∷ 0x80 ∷ 0x3F ∷ []

-- its file: 80 zeros, 1, 12 zeros, the corner three times, two zeros
abbrev file : List ℕ
file = zeros 80 ++ (1 ∷ 0 ∷ 0 ∷ 0 ∷ zeros 12) ++ (corner ++ corner ++ corner) ++ zeros 2

pub written : (export_answer xs ys zs 1 none none none 1 134 ≡ Ok 134) × (file_of (facets_lent xs ys zs 1 none none none 1) ≡ file)
unfolding export_answer file_of facet_bytes joined beside_by every le lt eq neg of_bits to_bits
written = (refl, refl)

pub read : (import_answer file 3 3 3 ≡ Ok 3) × (facets_in file ≡ facets_lent xs ys zs 1 none none none 1)
unfolding import_answer facets_from facet_from joined beside_by every le lt eq neg of_bits
read = (refl, refl)

-- an empty file, one of 83 bytes, one a byte short, one a byte long, and a count of 2 ^ 31 without triangles
pub lengths : (import_answer [] 3 3 3 ≡ Err BadLength)
    × (import_answer (zeros 83) 3 3 3 ≡ Err BadLength)
    × (import_answer (take 133 file) 3 3 3 ≡ Err BadLength)
    × (import_answer (file ++ zeros 1) 3 3 3 ≡ Err BadLength)
    × (import_answer (zeros 80 ++ bytes_of 0x8000_0000) 3 3 3 ≡ Err BadLength)
    × (import_answer (zeros 84) 0 0 0 ≡ Ok 0)
unfolding import_answer facets_from facet_from joined every
lengths = (refl, refl, refl, refl, refl, refl)
