-- Laws of lists in a room, for every element type: one more found, and a room that is written over from the front.
-- Assumes nothing.
use mathlib.Core.Path.{◌≡◌, refl, sym, ap, ◌∙◌}
use mathlib.Core.List.{List, [], ◌∷◌, ◌++◌, append-nil}
use Prim.Native.Nat.{ℕ, zero, suc, ◌-◌, ◌<◌, ◌≤◌}
use native.Mathlib.Nat.{not-suc-le-zero, le_of_suc-le-suc}
use native.Mathlib.Omega.{arith}
use lib.ListN.{length, set, get_or, take, drop, replicate, length-append, length-take, length-drop, drop_of_length-le, length-replicate}
use lib.Seq.{set-append_seam, take-append_seam, append_snoc, take_all}
use Rattle.lists.specs.Padding.{padded}

module _ {A : Type 0} (v : A) (room : ℕ) where
  pub padded_length : (found : List A) → length found ≤ room → length (padded v room found) ≡ room
  unfolding padded
  padded_length found h = simp (length-append, length-replicate) (omega arith)

  -- a store at the first free place is one more found
  pub padded_more : (found : List A) (a : A) → length found < room → set (padded v room found) (length found) a ≡ padded v room (found ++ a ∷ [])
  unfolding padded
  padded_more found a h =
      let e : room - length found ≡ suc (room - length (found ++ a ∷ [])) = rw (length-append found (a ∷ [])) (omega arith) in
      rw e (set-append_seam found v _ a ∙ sym (append_snoc found a _))

  -- what was found stands in front
  pub padded_front : (found : List A) → take (length found) (padded v room found) ≡ found
  unfolding padded
  padded_front found = take-append_seam found _

-- past what was found, the room gives v, as a look past the end of the list does
module _ {A : Type 0} (v : A) where
  blank_at : (m i : ℕ) → get_or (replicate m v) i v ≡ v
  blank_at zero i = refl
  blank_at (suc m) zero = refl
  blank_at (suc m) (suc i) = blank_at m i

  rest_at : (found : List A) (m i : ℕ) → get_or (found ++ replicate m v) i v ≡ get_or found i v
  rest_at [] m i = blank_at m i
  rest_at (x ∷ found) m zero = refl
  rest_at (x ∷ found) m (suc i) = rest_at found m i

  pub padded_at : (room : ℕ) (found : List A) (i : ℕ) → get_or (padded v room found) i v ≡ get_or found i v
  unfolding padded
  padded_at room found i = rest_at found (room - length found) i

-- d with its first n places written over by those of t
module _ {A : Type 0} where
  abbrev pub over : ℕ → List A → List A → List A
  over n t d = take n t ++ drop n d

  pub over_more : (n : ℕ) (t d : List A) (z : A) → n < length d → length t ≡ length d → set (over n t d) n (get_or t n z) ≡ over (suc n) t d
  over_more n [] [] z l e = absurd (not-suc-le-zero l)
  over_more n [] (y ∷ d) z l e = let no : ⊥ = omega arith in absurd no
  over_more n (x ∷ t) [] z l e = absurd (not-suc-le-zero l)
  over_more zero (x ∷ t) (y ∷ d) z l e = refl
  over_more (suc n) (x ∷ t) (y ∷ d) z l e = ap {B = List A} (λ r. x ∷ r) (over_more n t d z (le_of_suc-le-suc l) (omega arith))

  pub over_length : (n : ℕ) (t d : List A) → length t ≡ length d → length (over n t d) ≡ length d
  over_length n t d e = simp (length-append, length-take, length-drop) (omega arith)

  pub over_all : (n : ℕ) (t d : List A) → length t ≡ length d → length d ≤ n → over n t d ≡ t
  over_all n t d e h = rw (take_all n t (omega arith), drop_of_length-le d {i = n} h, append-nil)
