-- The root of 3 that the march uses; then the least and the largest value
-- above zero, -0, +0, the infinity, -1 and a NaN. By computation.
-- Assumes nothing.
use Rattle.std.specs.Prelude.{Ok, Err}
use Rattle.std.proofs.Common.{◌≡◌, [], ◌∷◌, map, refl}
use lib.Ieee.{of_bits}
use Rattle.refusals.specs.declared.Refusal.TheVariants.{BadReading}
use Rattle.floats.specs.Floats.{f32}
use Rattle.root.specs.Root.{root_answer}

pub samples : map (λ b. root_answer (f32 b)) (0x40400000 ∷ 1 ∷ 0x7F7FFFFF ∷ 0x80000000 ∷ 0 ∷ 0x7F800000 ∷ 0xBF800000 ∷ 0x7FC00000 ∷ [])
    ≡ Ok (f32 0x3FDDB3D7) ∷ Ok (f32 0x1A3504F3) ∷ Ok (f32 0x5F7FFFFF)
    ∷ Ok (f32 0x80000000) ∷ Ok (f32 0) ∷ Ok (f32 0x7F800000) ∷ Err BadReading ∷ Err BadReading ∷ []
unfolding root_answer of_bits
samples = refl
