-- Lines that are printed: the sample of document 01, the largest number, the last refusal. By computation.
-- Assumes nothing.
use Prim.Native.Nat.{ℕ}
use mathlib.Core.Path.{◌≡◌, refl}
use mathlib.Core.List.{List, [], ◌∷◌}
use lib.Ieee.{of_fields, of_bits, to_bits}
use Rattle.floats.specs.Floats.{f32}
use Rattle.refusals.specs.declared.Refusal.TheVariants.{BadVertex}
use Rattle.texts.specs.Texts.{hex_digits, hex_field, decimal_from, counts_line, vertex_line, bad_line, refused_line}

abbrev pub printed : List (List ℕ)
printed = counts_line 2 1 0 ∷ vertex_line (f32 0x4128_0000) (f32 0x8000_0000) (f32 0xFF80_0000) ∷ bad_line 18446744073709551615 ∷ refused_line BadVertex ∷ []

-- `rows 2 edges 1 triangles 0`, `v 41280000 80000000 ff800000`, `bad 18446744073709551615`, `refused 10`
pub samples :
    printed
    ≡ (114 ∷ 111 ∷ 119 ∷ 115 ∷ 32 ∷ 50 ∷ 32 ∷ 101 ∷ 100 ∷ 103 ∷ 101 ∷ 115 ∷ 32 ∷ 49 ∷ 32 ∷ 116 ∷ 114 ∷ 105 ∷ 97 ∷ 110
    ∷ 103 ∷ 108 ∷ 101 ∷ 115 ∷ 32 ∷ 48 ∷ 10 ∷ [])
    ∷ (118 ∷ 32 ∷ 52 ∷ 49 ∷ 50 ∷ 56 ∷ 48 ∷ 48 ∷ 48 ∷ 48 ∷ 32 ∷ 56 ∷ 48 ∷ 48 ∷ 48 ∷ 48 ∷ 48 ∷ 48 ∷ 48 ∷ 32 ∷ 102 ∷ 102 ∷ 56 ∷ 48 ∷ 48 ∷ 48 ∷ 48 ∷ 48 ∷ 10 ∷ [])
    ∷ (98 ∷ 97 ∷ 100 ∷ 32 ∷ 49 ∷ 56 ∷ 52 ∷ 52 ∷ 54 ∷ 55 ∷ 52 ∷ 52 ∷ 48 ∷ 55 ∷ 51 ∷ 55 ∷ 48 ∷ 57 ∷ 53 ∷ 53 ∷ 49 ∷ 54 ∷ 49 ∷ 53 ∷ 10 ∷ [])
    ∷ (114 ∷ 101 ∷ 102 ∷ 117 ∷ 115 ∷ 101 ∷ 100 ∷ 32 ∷ 49 ∷ 48 ∷ 10 ∷ [])
    ∷ []
unfolding counts_line vertex_line bad_line refused_line hex_field hex_digits decimal_from of_bits to_bits of_fields
samples = refl
