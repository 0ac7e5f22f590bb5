-- The first place of a list dropped where a part is copied one place down.
-- Assumes nothing.
use Rattle.std.proofs.Common.{ℕ, suc, ◌+◌, ◌-◌, ◌<◌, ◌≤◌, ◌≡◌, sym, ap, ◌∙◌, List, ◌∷◌, length, get_or, set, take, drop, arith}
use Rattle.std.proofs.lemmas.List.{drop-take, set_at}
use lib.ListN.{length-drop, length-take}
use lib.Seq.{drop-cons, paste}
use native.Mathlib.Nat.{zero-add}
use borrow.Author.Tests.{le-leb, lt-ltb}
use Rattle.lists.specs.Places.{first_dropped}

module _ {A : Type 0} (l : List A) (n : ℕ) (v : A) where
  -- the places from the second up to the n-th copied one place down, and v in the last
  pub dropped : 0 < n → n ≤ length l → set (paste l 0 (drop 1 l) (n - 1)) (n - 1) v ≡ first_dropped v l n
  dropped p h =
      let e : 1 + (n - 1) ≡ n = omega arith in
      let front : length (take (n - 1) (drop 1 l)) ≡ n - 1 = simp (length-take, length-drop) (omega arith) in
      let back : drop 1 (take n l) ≡ take (n - 1) (drop 1 l) = ap (λ (k : ℕ). drop 1 (take k l)) (sym e) ∙ drop-take 1 (n - 1) l in
      let up : suc (n - 1) ≡ n = omega arith in
      let last : drop (0 + (n - 1)) l ≡ get_or l (n - 1) v ∷ drop n l = ap (λ (k : ℕ). drop k l) (zero-add (n - 1)) ∙ drop-cons l (n - 1) v (omega arith) ∙ ap (λ (k : ℕ). get_or l (n - 1) v ∷ drop k l) up in
      rw (lt-ltb 0 n p, le-leb n (length l) h, back, paste, last) (set_at (take (n - 1) (drop 1 l)) (get_or l (n - 1) v) (drop n l) v (n - 1) front)
