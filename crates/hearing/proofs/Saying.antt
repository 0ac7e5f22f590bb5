-- What a mark says of a cell. Assumes nothing.
use Rattle.std.specs.Prelude.{Ok, Err, None, Option, Some}
use mathlib.Core.Path.{◌≡◌, refl, sym, ◌∙◌}
use mathlib.Core.Bool.{Bool, true, false}
use mathlib.Core.List.{List}
use Prim.Native.Nat.{ℕ, ◌<◌}
use native.Mathlib.Omega.{arith}
use lib.ListN.{length, get_or}
use lib.Ieee.{Float, nan, of_bits}
use Rattle.floats.specs.Floats.{is_finite}
use Rattle.marks.specs.Marks.{label, spot_of, look}
use Rattle.marks.proofs.Keeping.{label_real, within, standing_at, value_at_lem, value_absent}
use Rattle.search.specs.Keys.{member}
use Rattle.marching.specs.March.{MarchedRow, distance_of}
use Rattle.hearing.specs.Hearing.{waiting_mark, or_waits, said, Marked}

-- a key that is found stands at a place of the list
pub place_in : (k : ℕ) (ks : List ℕ) (i : ℕ) → spot_of k ks ≡ Ok i → i < length ks
place_in k ks i e = within ks i (λ z. label_real k (sym (standing_at (label k) ks i e) ∙ z))

module _ (rs : List MarchedRow) (ws : List ℕ) (ks : List ℕ) (ds : List Float) (h : Marked rs ws ks ds) (k : ℕ) (real : k ≡ 1 → ⊥) where
  pub known_at : (i : ℕ) → spot_of k ks ≡ Ok i → distance_of k rs ≡ said (get_or ds i nan)
  unfolding or_waits of_bits
  known_at i e = go (distance_of k rs) (member k ws) refl (sym (value_at_lem (label k) ks ds i e) ∙ h.marks k real)
    where
      go : (o : Option Float) (b : Bool) → distance_of k rs ≡ o → Some (get_or ds i nan) ≡ or_waits o b → o ≡ said (get_or ds i nan)
      go (Some d) b p q = let x : get_or ds i nan ≡ d = cc in rw (x, h.finite k d p)
      go None true p q = let x : get_or ds i nan ≡ waiting_mark = cc in rw x
      go None false p q = absurd (let z : ◌≡◌ {A = ℕ} 0 1 = cc in omega arith)

  -- a cell without a mark is not stored, and does not wait with one
  pub unmarked : look k ks ds ≡ None → (distance_of k rs ≡ None) × (member k ws ≡ false)
  unfolding or_waits
  unmarked e = go (distance_of k rs) (member k ws) (sym (h.marks k real) ∙ e)
    where
      go : (o : Option Float) (b : Bool) → or_waits o b ≡ None → (o ≡ None) × (b ≡ false)
      go (Some d) b q = absurd (let z : ◌≡◌ {A = ℕ} 0 1 = cc in omega arith)
      go None true q = absurd (let z : ◌≡◌ {A = ℕ} 0 1 = cc in omega arith)
      go None false q = (refl, refl)

  pub known_absent : (p : ℕ) → spot_of k ks ≡ Err p → distance_of k rs ≡ said waiting_mark
  unfolding of_bits
  known_absent p e = (unmarked (value_absent (label k) ks ds p e)).0

-- what a mark says of a stored cell
pub said_some : (d : Float) (o : Option Float) → o ≡ said d → is_finite d ≡ true → o ≡ Some d
said_some d o e f = e ∙ rw f

pub said_none : (d : Float) (o : Option Float) → o ≡ said d → is_finite d ≡ false → o ≡ None
said_none d o e f = e ∙ rw f
