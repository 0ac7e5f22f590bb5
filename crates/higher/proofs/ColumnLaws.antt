-- A column read at the places that a handful holds: one more is written behind those before it.
-- Assumes nothing.
use Prim.Native.Nat.{ℕ, ◌+◌, ◌<◌, ◌≤◌}
use native.Mathlib.Numerals.{add-one}
use native.Mathlib.Omega.{arith}
use mathlib.Core.Path.{◌≡◌, sym, ap, ◌∙◌}
use mathlib.Core.List.{List, [], ◌∷◌, ◌++◌, map, map-append}
use Rattle.std.proofs.lemmas.List.{take_all}
use lib.ListN.{length, get_or, take, set, length-map}
use lib.Seq.{take-suc, length-take-le}
use Rattle.lists.specs.Padding.{padded}
use Rattle.lists.proofs.ListLaws.{at_in}
use Rattle.lists.proofs.PaddingLaws.{padded_more}
use Rattle.handful.specs.declared.Handful.{Handful}
use Rattle.handful.specs.Handfuls.{held, numbers_of}
use Rattle.handful.proofs.PlacingLaws.{held_numbers}
use Rattle.higher.specs.Steps.{AllBelow}

-- a place that is read is below what all are below
pub one_below : {m : ℕ} (places : List ℕ) (i : ℕ) → i < length places → AllBelow m places → get_or places i 0 < m
one_below places i h b = b _ (at_in places 0 i h)

module _ {A : Type 0} (f : ℕ → A) (v : A) (places : List ℕ) where
  pub column_turn :
      (i : ℕ) (out : List A)
      → i < 14
      → i < length places
      → out ≡ padded v 14 (map f (take i places))
      → set out i (f (get_or places i 0)) ≡ padded v 14 (map f (take (i + 1) places))
  column_turn i out few h e =
      let x = f (get_or places i 0) in
      let done = map f (take i places) in
      let long : length done ≡ i = length-map (take i places) f ∙ length-take-le i places (omega arith) in
      let more : map f (take (i + 1) places) ≡ done ++ x ∷ [] =
      rw (add-one i, take-suc places i 0 h) (map-append f (take i places) (get_or places i 0 ∷ [])) in
      ap (λ (l : List A). set l i x) e
      ∙ ap (λ (k : ℕ). set (padded v 14 done) k x) (sym long)
      ∙ padded_more v 14 done x (omega arith)
      ∙ ap (padded v 14) (sym more)

  pub column_whole :
      (i : ℕ) (out : List A) → length places ≤ i → out ≡ padded v 14 (map f (take i places)) → out ≡ padded v 14 (map f places)
  column_whole i out h e = e ∙ rw (take_all i places h)

-- a handful that is known to hold these numbers
pub same_numbers : {h : Handful} {shown : List ℕ} (numbers : List ℕ) → shown ≡ numbers_of h → h ≡ held numbers → shown ≡ numbers
same_numbers numbers n e = n ∙ ap numbers_of e ∙ held_numbers numbers
