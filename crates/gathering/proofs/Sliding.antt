-- A loop that moves values up, from the last one down, for every element type.
-- Assumes nothing.
use mathlib.Core.Path.{◌≡◌, refl, sym, ap, ◌∙◌}
use mathlib.Core.List.{List, ◌∷◌, ◌++◌, append_assoc}
use Prim.Native.Nat.{ℕ, zero, suc, ◌-◌, ◌<◌, ◌≤◌}
use native.Mathlib.Nat.{not-suc-le-zero, le_of_suc-le-suc}
use native.Mathlib.Numerals.{sub-one}
use native.Mathlib.Omega.{arith}
use lib.ListN.{length, get_or, take, drop, set, length-take, take-append-drop, drop_of_length-le, get_or-append}
use lib.Seq.{length-take-le, take-take, get_or-take, drop-cons, take-suc, append_snoc, set_at}
use Rattle.gathering.specs.Steps.{slid}

module _ {A : Type 0} (d : A) where
  -- nothing has moved yet
  pub none_slid : (l : List A) (end to : ℕ) → slid l to end end to ≡ l
  none_slid l end to =
      ap (λ (t : List A). take to l ++ (t ++ drop to l)) (drop_of_length-le (take end l) {i = end} (rw length-take (omega arith)))
      ∙ take-append-drop to l

  -- nothing need move
  pub stays : (l : List A) (from end to : ℕ) → from ≤ end → end ≡ to → l ≡ slid l from from end to
  stays l from end to h e =
      sym (take-append-drop end l)
      ∙ ap (λ (t : List A). t ++ drop end l) (sym (take-append-drop from (take end l)))
      ∙ append_assoc (take from (take end l)) (drop from (take end l)) (drop end l)
      ∙ rw (take-take from end l h, ← e) refl

  one_slid :
      (l : List A) (p i end to : ℕ)
      → i ≤ p
      → i < end
      → p < length l
      → end ≤ length l
      → set (slid l (suc p) (suc i) end to) p (get_or (slid l (suc p) (suc i) end to) i d) ≡ slid l p i end to
  one_slid l p i end to h g k m =
      let behind : List A = drop (suc i) (take end l) ++ drop to l in
      let x : get_or (slid l (suc p) (suc i) end to) i d ≡ get_or l i d =
      get_or-append (take (suc p) l) behind d i (rw (length-take-le (suc p) l k) (omega arith)) ∙ get_or-take (suc p) l i d (omega arith) in
      let y : slid l (suc p) (suc i) end to ≡ take p l ++ get_or l p d ∷ behind =
      ap (λ (t : List A). t ++ behind) (take-suc l p d k) ∙ append_snoc (take p l) (get_or l p d) behind in
      let z : drop i (take end l) ≡ get_or l i d ∷ drop (suc i) (take end l) =
      drop-cons (take end l) i d (rw (length-take-le end l m) g) ∙ rw (get_or-take end l i d g) in
      ap (set (slid l (suc p) (suc i) end to) p) x
      ∙ ap (λ (t : List A). set t p (get_or l i d)) y
      ∙ set_at (take p l) (get_or l p d) behind (get_or l i d) p (length-take-le p l (omega arith))
      ∙ ap (λ (t : List A). take p l ++ (t ++ drop to l)) (sym z)

  -- a turn of the loop, from the list m as it finds it
  pub turn :
      (l m : List A) (p i end to : ℕ)
      → 0 < i
      → i ≤ p
      → i ≤ end
      → p ≤ length l
      → end ≤ length l
      → m ≡ slid l p i end to
      → set m (p - 1) (get_or m (i - 1) d) ≡ slid l (p - 1) (i - 1) end to
  turn l m p zero end to s h g k n e = absurd (not-suc-le-zero s)
  turn l m zero (suc i) end to s h g k n e = absurd (not-suc-le-zero h)
  turn l m (suc p) (suc i) end to s h g k n e = rw (e, sub-one (suc p), sub-one (suc i)) (one_slid l p i end to (le_of_suc-le-suc h) g k n)
