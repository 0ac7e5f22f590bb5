-- Rounding to a whole number, by computation: 2.5, -2.5, 0.5 less a little, 0.5, -0.5, -0, the largest f32 below 2 ^
-- 31, 2 ^ 31, -2 ^ 31, the next below it, the infinity, a NaN. Assumes nothing.
use Rattle.std.specs.Prelude.{Ok, Err}
use Rattle.std.proofs.Common.{◌≡◌, [], ◌∷◌, map, pos, negsuc, refl}
use lib.Ieee.{of_bits}
use Rattle.refusals.specs.declared.Refusal.TheVariants.{OutOfRange}
use Rattle.floats.specs.Floats.{f32, whole_of}

pub samples : map (λ b. whole_of (f32 b))
    (0x40200000 ∷ 0xC0200000 ∷ 0x3EFFFFFF ∷ 0x3F000000 ∷ 0xBF000000 ∷ 0x80000000 ∷ 0x4EFFFFFF ∷ 0x4F000000 ∷ 0xCF000000
    ∷ 0xCF000001 ∷ 0x7F800000 ∷ 0x7FC00000 ∷ [])
    ≡ Ok (pos 3) ∷ Ok (negsuc 2) ∷ Ok (pos 0) ∷ Ok (pos 1) ∷ Ok (negsuc 0) ∷ Ok (pos 0)
    ∷ Ok (pos 2147483520) ∷ Err OutOfRange ∷ Ok (negsuc 2147483647) ∷ Err OutOfRange
    ∷ Err OutOfRange ∷ Err OutOfRange ∷ []
unfolding whole_of of_bits
samples = refl
