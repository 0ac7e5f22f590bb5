-- The loops over a cell's neighbours: what is left to do says what the whole does. Assumes nothing.
use mathlib.Core.Path.{◌≡◌, sym, ap, ◌∙◌}
use mathlib.Core.Bool.{Bool, true, false, not, ◌&&◌, ◌||◌, true≢false}
use mathlib.Core.List.{List}
use Prim.Native.Nat.{ℕ, suc, ◌+◌, ◌<◌, ◌≤◌}
use native.Mathlib.Numerals.{add-one}
use lib.Dec.{eqb}
use lib.ListN.{length, drop, get_or, drop_of_length-le}
use lib.Seq.{drop-cons}
use lib.Ieee.{Float}
use Rattle.ids.specs.Key.{on_lattice}
use Rattle.ids.proofs.KeyLaws.{lattice_by_low_bits}
use Rattle.lists.proofs.ListLaws.{at_in}
use Rattle.neighbors.specs.Neighbors.{neighbours}
use Rattle.neighbors.proofs.Adjacency.{neighbour_on_lattice}
use Rattle.marching.specs.March.{MarchedRow, Field, distance_of, heard, settling}
use Rattle.marching.specs.Spreading.{has_spread, other_spread}

module _ (ns list : List ℕ) (listed : list ≡ ns) where
  listed_at : (i : ℕ) → i < length ns → get_or list i 0 ≡ get_or ns i 0
  listed_at i l = ap (λ (x : List ℕ). get_or x i 0) listed

  -- ---- settling, from place i of the neighbours on

  module _ (f : Field) (rs : List MarchedRow) (k : ℕ) where
    pub settle_more : (i : ℕ) (best best' : Float)
        → i < length ns
        → best' ≡ heard f.size (f.reach k i) best (distance_of (get_or list i 0) rs)
        → settling f rs k i best (drop i ns) ≡ settling f rs k (i + 1) best' (drop (i + 1) ns)
    unfolding settling
    settle_more i best best' l e =
        ap (settling f rs k i best) (drop-cons ns i 0 l)
        ∙ ap (λ (x : ℕ).
        settling f rs k (suc i) (heard f.size (f.reach k i) best (distance_of x rs)) (drop (suc i) ns))
        (sym (listed_at i l))
        ∙ ap (λ (b : Float). settling f rs k (suc i) b (drop (suc i) ns)) (sym e)
        ∙ ap (λ (j : ℕ). settling f rs k j best' (drop j ns)) (sym (add-one i))

    pub settle_none : (i : ℕ) (best : Float) → length ns ≤ i → settling f rs k i best (drop i ns) ≡ best
    unfolding settling
    settle_none i best l = rw (drop_of_length-le ns {i = i} l)

  -- ---- whether another than k has spread, from place i on

  module _ (seed : ℕ → Bool) (f : Field) (k : ℕ) (rs : List MarchedRow) where
    other_one : (i : ℕ)
        → i < length ns
        → other_spread seed f k rs (drop i ns)
        ≡ (not (eqb (get_or list i 0) k) && has_spread seed f (get_or list i 0) (distance_of (get_or list i 0) rs))
        || other_spread seed f k rs (drop (i + 1) ns)
    unfolding other_spread
    other_one i l = rw (drop-cons ns i 0 l, listed_at i l, add-one i)

    module _ (i : ℕ) (l : i < length ns) (b : Bool)
        (told : b ≡ not (eqb (get_or list i 0) k) && has_spread seed f (get_or list i 0) (distance_of (get_or list i 0) rs)) where
      pub other_more : b ≡ false → other_spread seed f k rs (drop i ns) ≡ other_spread seed f k rs (drop (i + 1) ns)
      other_more e = other_one i l ∙ rw (← told, e)

      pub other_here : b ≡ true → true ≡ other_spread seed f k rs (drop i ns)
      other_here e = sym (other_one i l ∙ rw (← told, e))

    pub other_none : (i : ℕ) → length ns ≤ i → false ≡ other_spread seed f k rs (drop i ns)
    unfolding other_spread
    other_none i l = rw (drop_of_length-le ns {i = i} l)

-- ---- no neighbour of a cell has key 1

pub real_key : (k : ℕ) → on_lattice k ≡ true → k ≡ 1 → ⊥
real_key k on e = true≢false (sym on ∙ ap on_lattice e ∙ lattice_by_low_bits 1)

pub near_lattice : (k : ℕ) → on_lattice k ≡ true → (list : List ℕ) → list ≡ neighbours k → (i : ℕ) → i < length (neighbours k)
    → on_lattice (get_or list i 0) ≡ true
near_lattice k own list listed i l =
    rw (listed_at (neighbours k) list listed i l) (neighbour_on_lattice k (get_or (neighbours k) i 0) own (at_in (neighbours k) 0 i l))

pub real_near :
    (k : ℕ)
    → on_lattice k ≡ true
    → (list : List ℕ)
    → list ≡ neighbours k
    → (i : ℕ)
    → i < length (neighbours k)
    → get_or list i 0 ≡ 1
    → ⊥
real_near k own list listed i l = real_key (get_or list i 0) (near_lattice k own list listed i l)
