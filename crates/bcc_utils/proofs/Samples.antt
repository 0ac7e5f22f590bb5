-- Samples of snapping at the ends of i32, and of places in metres, by computation. Assumes nothing.
use Rattle.std.specs.Prelude.{Result}
use Prim.Native.Nat.{ℕ}
use mathlib.Core.Path.{◌≡◌, refl}
use mathlib.Core.List.{[], ◌∷◌, map}
use lib.IntN.{pos, negsuc}
use lib.Ieee.{of_bits, div, lt, le, eq}
use Rattle.floats.specs.Floats.{f32, whole_of}
use Rattle.bcc_utils.specs.Snapping.{Point, even, on_lattice, even_down, even_up, odd_up, odd_down, square_of, squared_distance, nearest, nearer, nearest_candidate, is_end, snapped, snapped_number, snapped_place}
use Rattle.bcc_utils.specs.Metres.{place_snapped, voxel_of}
use Rattle.refusals.specs.declared.Refusal.{Refusal}
use Rattle.bcc_utils.specs.declared.WideCells.{WideCells}

-- an answer's number and place
abbrev answer_of : Result (WideCells × WideCells × WideCells) Refusal → ℕ × Point
answer_of s = (snapped_number s, snapped_place s)

-- on the lattice at the ends; mixed parities at each end, and next to them
pub samples : map (λ (p : Point). answer_of (snapped p.0 p.1 p.2))
    ((pos 2147483647, pos 1, negsuc 0)
    ∷ (negsuc 2147483647, pos 0, pos 2)
    ∷ (pos 2147483647, pos 0, pos 1)
    ∷ (pos 1, negsuc 2147483647, pos 1)
    ∷ (pos 2147483646, pos 1, pos 1)
    ∷ (negsuc 2147483646, pos 0, pos 2)
    ∷ [])
    ≡ (0, (pos 2147483647, pos 1, negsuc 0))
    ∷ (0, (negsuc 2147483647, pos 0, pos 2))
    ∷ (9, (pos 0, pos 0, pos 0))
    ∷ (9, (pos 0, pos 0, pos 0))
    ∷ (0, (pos 2147483647, pos 1, pos 1))
    ∷ (0, (negsuc 2147483647, pos 0, pos 2))
    ∷ []
unfolding snapped snapped_number snapped_place on_lattice even is_end nearest_candidate nearer nearest squared_distance square_of even_down even_up odd_up odd_down
samples = refl

-- Places by their bits: 1.23, 4.56, 7.89 at 0.05; halves away from zero; -0; sizes -0, 1,000 and the next above; a size and a
-- coordinate that are no numbers; a NaN; an infinity; 2 ^ 31; -2 ^ 31 on the lattice, and off it; a quotient that overflows
pub place_samples : map (λ (p : ℕ × ℕ × ℕ × ℕ). answer_of (voxel_of (f32 p.0) (f32 p.1) (f32 p.2) (f32 p.3)))
    ((0x3F9D70A4, 0x4091EB85, 0x40FC7AE1, 0x3D4CCCCD)
    ∷ (0x3F000000, 0xBF000000, 0x3FC00000, 0x3F800000)
    ∷ (0x80000000, 0x40000000, 0x40800000, 0x3F800000)
    ∷ (0x00000000, 0x00000000, 0x00000000, 0x80000000)
    ∷ (0x00000000, 0x00000000, 0x00000000, 0x447A0000)
    ∷ (0x00000000, 0x00000000, 0x00000000, 0x447A0001)
    ∷ (0x7FC00000, 0x00000000, 0x00000000, 0x7FC00000)
    ∷ (0x00000000, 0x7FC00000, 0x00000000, 0x3F800000)
    ∷ (0x00000000, 0x00000000, 0xFF800000, 0x3F800000)
    ∷ (0x4F000000, 0x00000000, 0x00000000, 0x3F800000)
    ∷ (0xCF000000, 0x00000000, 0x40000000, 0x3F800000)
    ∷ (0xCF000000, 0x3F800000, 0x40000000, 0x3F800000)
    ∷ (0x00000000, 0x7149F2CA, 0x00000000, 0x0DA24260)
    ∷ [])
    ≡ (0, (pos 25, pos 91, pos 159))
    ∷ (0, (pos 1, negsuc 0, pos 3))
    ∷ (0, (pos 0, pos 2, pos 4))
    ∷ (1, (pos 0, pos 0, pos 0))
    ∷ (0, (pos 0, pos 0, pos 0))
    ∷ (1, (pos 0, pos 0, pos 0))
    ∷ (1, (pos 0, pos 0, pos 0))
    ∷ (5, (pos 0, pos 0, pos 0))
    ∷ (5, (pos 0, pos 0, pos 0))
    ∷ (9, (pos 0, pos 0, pos 0))
    ∷ (0, (negsuc 2147483647, pos 0, pos 2))
    ∷ (9, (pos 0, pos 0, pos 0))
    ∷ (9, (pos 0, pos 0, pos 0))
    ∷ []
unfolding voxel_of place_snapped of_bits div lt le eq whole_of snapped snapped_number snapped_place on_lattice even is_end
    nearest_candidate nearer nearest squared_distance square_of even_down even_up odd_up odd_down
place_samples = refl
