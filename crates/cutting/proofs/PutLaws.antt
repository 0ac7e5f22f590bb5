-- The triangles of a patch, put one by one.
-- Assumes nothing.
use Prim.Native.Nat.{ℕ, ◌+◌}
use native.Mathlib.Numerals.{add-one}
use native.Mathlib.Omega.{arith}
use mathlib.Core.Path.{◌≡◌, refl, ◌∙◌}
use mathlib.Core.List.{List, []}
use lib.ListN.{set}
use Rattle.cuts.specs.declared.Triangle.{Triangle}
use Rattle.cuts.specs.declared.Patch.TheVariants.{Empty, Single, Double}
use Rattle.cuts.specs.Patches.{triangles_of_patch}
use Rattle.cutting.specs.Steps.{Puts}

module _ (at : ℕ) (x y z : List ℕ) where
  -- nothing is put
  pub nothing_put : Puts [] at x y z at x y z
  nothing_put = record { count = omega arith; ones = refl; twos = refl; threes = refl }

  pub empty_put : Puts (triangles_of_patch Empty) at x y z at x y z
  unfolding triangles_of_patch
  empty_put = nothing_put

  pub single_put : (t : Triangle) (x' y' z' : List ℕ)
      → x' ≡ set x at t.a
      → y' ≡ set y at t.b
      → z' ≡ set z at t.c
      → Puts (triangles_of_patch (Single t)) at x y z (at + 1) x' y' z'
  unfolding triangles_of_patch
  single_put t x' y' z' ex ey ez = record { count = refl; ones = ex; twos = ey; threes = ez }

  pub double_put : (t u : Triangle) (x' y' z' x'' y'' z'' : List ℕ)
      → x' ≡ set x at t.a
      → y' ≡ set y at t.b
      → z' ≡ set z at t.c
      → x'' ≡ set x' (at + 1) u.a
      → y'' ≡ set y' (at + 1) u.b
      → z'' ≡ set z' (at + 1) u.c
      → Puts (triangles_of_patch (Double t u)) at x y z (at + 2) x'' y'' z''
  unfolding triangles_of_patch
  double_put t u x' y' z' x'' y'' z'' ex ey ez fx fy fz =
      record { count = refl; ones = fx ∙ rw (ex, add-one at); twos = fy ∙ rw (ey, add-one at); threes = fz ∙ rw (ez, add-one at) }
