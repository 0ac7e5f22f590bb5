-- The tests of a key and a threshold, after those of the table. Assumes nothing.
use Rattle.std.specs.Prelude.{Ok, Err, Result}
use mathlib.Core.Path.{◌≡◌, sym, ◌∙◌}
use mathlib.Core.Bool.{true, false}
use Prim.Native.Nat.{ℕ}
use lib.Ieee.{Float}
use Rattle.floats.specs.Floats.{is_finite}
use Rattle.ids.specs.Key.{on_lattice}
use Rattle.refusals.specs.declared.Refusal.TheVariants.{OffLattice, BadReading}
use Rattle.table.specs.Table.{need}
use Rattle.marched.specs.Marched.{MarchedTable, marched_check, key_check, free_check}
use Rattle.marched.proofs.MarchedLaws.{passes_on, passes_after}
use Rattle.refusals.specs.declared.Refusal.{Refusal}

-- ---- tests of a key and a threshold

module _ (t : MarchedTable) (k : ℕ) (v : Result (Unit {0}) Refusal) where
  pub key_passes : v ≡ marched_check t → v ≡ (Ok tt) → on_lattice k ≡ true → (Ok tt) ≡ key_check t k
  unfolding need
  key_passes e f h = sym (rw h) ∙ passes_on t v (need (on_lattice k) OffLattice (Ok tt)) e f

  pub key_fails : v ≡ marched_check t → v ≡ (Ok tt) → on_lattice k ≡ false → Err OffLattice ≡ key_check t k
  unfolding need
  key_fails e f h = sym (rw h) ∙ passes_on t v (need (on_lattice k) OffLattice (Ok tt)) e f

  module _ (threshold : Float) (e : v ≡ key_check t k) (f : v ≡ (Ok tt)) where
    pub free_passes : is_finite threshold ≡ true → (Ok tt) ≡ free_check t k threshold
    unfolding need
    free_passes h = sym (rw h) ∙ passes_after t v k (need (is_finite threshold) BadReading (Ok tt)) e f

    pub free_fails : is_finite threshold ≡ false → Err BadReading ≡ free_check t k threshold
    unfolding need
    free_fails h = sym (rw h) ∙ passes_after t v k (need (is_finite threshold) BadReading (Ok tt)) e f
