-- What a reading that passed every test is: each test that passed says its own part.
-- Assumes nothing.
use Rattle.std.specs.Prelude.{Ok, Some, None, Option, Result}
use mathlib.Core.Path.{◌≡◌, refl}
use mathlib.Core.Bool.{Bool, true, false, cond}
use Prim.Native.Nat.{ℕ}
use native.Mathlib.Omega.{arith}
use lib.Ieee.{Float}
use Rattle.floats.specs.Floats.{zero32, one32, between, is_finite, beyond}
use Rattle.ids.specs.Key.{on_lattice}
use Rattle.lists.proofs.Bools.{and_second, cases}
use Rattle.refusals.specs.declared.Refusal.{Refusal}
use Rattle.refusals.specs.declared.Refusal.TheVariants.{OffLattice, BadReading}
use Rattle.table.specs.declared.Settings.{Settings}
use Rattle.measuring.specs.declared.Reading.{Reading}
use Rattle.measuring.specs.declared.Reading.TheVariants.{Direct, Ray}
use Rattle.measuring.specs.declared.Measured.{Measured}
use Rattle.measuring.specs.Readings.{reading_ok, measured, near_or_far, admit_if, admitted}

admits : (b : Bool) (why : Refusal) (rest : Result (Option Measured) Refusal) (m : Measured) → admit_if b why rest ≡ Ok (Some m) → (b ≡ true) × (rest ≡ Ok (Some m))
unfolding admit_if
admits true why rest m e = (refl, e)
admits false why rest m e = let z : ◌≡◌ {A = ℕ} 0 1 = cc in absurd (omega arith)

near : (s : Settings) (x m : Measured) → near_or_far s x ≡ Ok (Some m) → x ≡ m
near s x m e =
    cases (λ (b : Bool). cond {A = Result (Option Measured) Refusal} b (Ok None) (Ok (Some x)) ≡ Ok (Some m) → x ≡ m) (beyond s.truncation.0 x.distance)
    (λ t h. let z : ◌≡◌ {A = ℕ} 0 1 = cc in absurd (omega arith))
    (λ t h. cc)
    e

confident : (size : Float) (k : ℕ) (r : Reading) → reading_ok r ≡ true → between zero32 one32 (measured size k r).confidence ≡ true
confident size k (Direct d c) h = and_second (is_finite d.0) _ h
confident size k (Ray x y z depth c) h =
    and_second (is_finite depth.0) _ (and_second (is_finite z.0) _ (and_second (is_finite y.0) _ (and_second (is_finite x.0) _ h)))

-- its key is on the lattice and its confidence from 0 to 1
pub near_known :
    (s : Settings) (k : ℕ) (r : Reading) (m : Measured)
    → admitted s k r ≡ Ok (Some m)
    → (on_lattice k ≡ true) × (between zero32 one32 m.confidence ≡ true)
unfolding admitted
near_known s k r m e =
    let x = measured s.voxel_size.0 k r in
    let a = admits (on_lattice k) OffLattice _ m e in
    let b = admits (reading_ok r) BadReading _ m a.1 in
    (a.0, rw (← near s x m b.1) (confident s.voxel_size.0 k r b.0))
