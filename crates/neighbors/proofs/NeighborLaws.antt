-- Laws of steps and neighbours.
-- Assumes nothing.
use Rattle.std.specs.Prelude.{Ok, Err, Some, None, Option, Result}
use mathlib.Core.Path.{◌≡◌, refl, sym, ◌∙◌}
use mathlib.Core.Bool.{Bool, true, false, cond}
use Prim.Native.Nat.{ℕ, suc, ◌+◌, ◌<◌, ◌≤◌, zero-le}
use native.Mathlib.Omega.{arith}
use borrow.Author.Tests.{lt-ltb, le-ltb, le-leb, leb-true}
use mathlib.Core.List.{List, [], ◌∷◌, ◌++◌, append-nil, append_assoc}
use lib.ListN.{length, get_or, set, take, replicate, length-append, length-take}
use lib.Seq.{take-suc, take-length, length-take-le}
use native.Mathlib.Numerals.{add-one}
use Rattle.lists.specs.Padding.{padded}
use Rattle.lists.specs.Listing.{count_of, held_for}
use Rattle.refusals.specs.declared.Refusal.TheVariants.{Lengths, OffLattice, NoPlace}
use Rattle.lists.proofs.PaddingLaws.{padded_more, padded_front}
use Rattle.neighbors.specs.Neighbors.{Offset, offsets, offset_at, in_box, reached, shown, neighbours_by, neighbours, near_of, listed_of, listing_of}
use Rattle.neighbors.specs.declared.Near.{Near}
use Rattle.ids.specs.Key.{on_lattice}
use lib.Dec.{ltb, leb}
use native.Mathlib.Nat.{sub-zero}
use Rattle.refusals.specs.declared.Refusal.{Refusal}

-- a step that stays inside
pub within : (x d : ℕ) → 2 ≤ x + d → x + d ≤ 65537 → in_box x d ≡ true
unfolding in_box
within x d l h = rw (le-leb 2 (x + d) l, lt-ltb (x + d) 65538 (omega arith))

-- the neighbours by two lists of offsets, one after the other
neighbours_append : (k : ℕ) (os ps : List Offset) → neighbours_by k (os ++ ps) ≡ neighbours_by k os ++ neighbours_by k ps
unfolding neighbours_by
neighbours_append k [] ps = refl
neighbours_append k (o ∷ os) ps = rw (neighbours_append k os ps, append_assoc)

pub fourteen : length offsets ≡ 14
unfolding offsets
fourteen = refl

-- those by the first n offsets
abbrev pub first : ℕ → ℕ → List ℕ
first k n = neighbours_by k (take n offsets)

one_more : (k n : ℕ) (os : List Offset) → n < length os
    → neighbours_by k (take (suc n) os) ≡ neighbours_by k (take n os) ++ shown (reached k (get_or os n (0, 0, 0)))
unfolding neighbours_by
one_more k n os l = rw (take-suc os n (0, 0, 0) l, neighbours_append k (take n os), append-nil)

pub first_more : (k n : ℕ) → n < 14 → first k (suc n) ≡ first k n ++ shown (reached k (offset_at n))
first_more k n l = one_more k n offsets (rw fourteen l)

pub first_all : (k : ℕ) → first k 14 ≡ neighbours k
unfolding offsets
first_all k = refl

-- at most one by each offset
shown_few : (a : Option ℕ) → length (shown a) ≤ 1
unfolding shown
shown_few (Some k) = omega arith
shown_few None = omega arith

pub neighbours_few : (k : ℕ) (os : List Offset) → length (neighbours_by k os) ≤ length os
unfolding neighbours_by
neighbours_few k [] = omega arith
neighbours_few k (o ∷ os) =
    omega (arith, length-append (shown (reached k o)) (neighbours_by k os), shown_few (reached k o), neighbours_few k os)

pub first_few : (k n : ℕ) → length (first k n) ≤ n
first_few k n = omega (arith, neighbours_few k (take n offsets), length-take n offsets)

-- one more, or none
module _ (k n : ℕ) (l : n < 14) {a : Option ℕ} (e : a ≡ reached k (offset_at n)) where
  pub first_one : {key : ℕ} → a ≡ Some key → first k (suc n) ≡ first k n ++ key ∷ []
  unfolding shown
  first_one f = rw (first_more k n l, ← e, f)

  pub first_none : a ≡ None → first k (suc n) ≡ first k n
  unfolding shown
  first_none f = rw (first_more k n l, ← e, f) (append-nil _)

  -- and so of the list and the count that hold them
  module _ (keys : List ℕ) (count : ℕ) (ks : keys ≡ padded 0 14 (first k n)) (cs : count ≡ length (first k n)) where
    pub keys_one : {key : ℕ} → a ≡ Some key → set keys count key ≡ padded 0 14 (first k (n + 1))
    keys_one {key} f =
        rw (add-one, first_one f, ks, cs) (padded_more 0 14 (first k n) key (omega (arith, first_few k n)))

    pub count_one : {key : ℕ} → a ≡ Some key → count + 1 ≡ length (first k (n + 1))
    count_one {key} f = rw (add-one n, first_one f, cs) (sym (length-append (first k n) (key ∷ [])))

    pub keys_none : a ≡ None → keys ≡ padded 0 14 (first k (n + 1))
    keys_none f = rw (add-one, first_none f) ks

    pub count_none : a ≡ None → count ≡ length (first k (n + 1))
    count_none f = rw (add-one, first_none f) cs

-- there are at most 14
pub at_most_14 : (k : ℕ) → length (neighbours k) ≤ 14
at_most_14 k = rw fourteen at (neighbours_few k offsets)

-- the cells of what is around a key are its neighbours
pub cells_known : (k : ℕ) {near : Near} {cells : List ℕ} → near ≡ near_of k → cells ≡ take near.count near.keys → cells ≡ neighbours k
cells_known k e f = f ∙ rw e (padded_front 0 14 (neighbours k))

-- what is put into the room is what the answer says
module _ (k room : ℕ) where
  said : Bool → Bool → Bool → Result ℕ Refusal
  said long on fits =
      cond long (Err Lengths)
      (cond on (cond fits (Ok (length (neighbours k))) (Err NoPlace)) (Err OffLattice))

  front : Result ℕ Refusal → List ℕ
  front a = padded 0 room (take (count_of a) (neighbours k))

  none : padded {A = ℕ} 0 room [] ≡ replicate room 0
  unfolding padded
  none = rw sub-zero

  held_said : (long on fits : Bool) → front (said long on fits) ≡ held_for 0 (said long on fits) room (neighbours k)
  unfolding said front held_for
  held_said true on fits = none
  held_said false false fits = none
  held_said false true false = none
  held_said false true true = rw (take-length (neighbours k))

  pub listing : padded 0 room (take (count_of (listed_of k room)) (neighbours k)) ≡ listing_of k room
  unfolding listed_of said front
  listing = held_said (ltb 1048576 room) (on_lattice k) (leb (length (neighbours k)) room)

  said_fits : (long on fits : Bool) → leb (length (neighbours k)) room ≡ fits → count_of (said long on fits) ≤ room
  unfolding said
  said_fits true on fits e = zero-le
  said_fits false false fits e = zero-le
  said_fits false true false e = zero-le
  said_fits false true true e = leb-true _ _ e

  count_fits : count_of (listed_of k room) ≤ room
  unfolding listed_of said
  count_fits = said_fits (ltb 1048576 room) (on_lattice k) (leb (length (neighbours k)) room) refl

  said_few : (long on fits : Bool) → count_of (said long on fits) ≤ length (neighbours k)
  unfolding said
  said_few true on fits = zero-le
  said_few false false fits = zero-le
  said_few false true false = zero-le
  said_few false true true = omega arith

  count_few : count_of (listed_of k room) ≤ length (neighbours k)
  unfolding listed_of said
  count_few = said_few (ltb 1048576 room) (on_lattice k) (leb (length (neighbours k)) room)

  pub answered_length : length (take (count_of (listed_of k room)) (neighbours k)) ≡ count_of (listed_of k room)
  answered_length = length-take-le (count_of (listed_of k room)) (neighbours k) count_few

  pub answered_fits : length (take (count_of (listed_of k room)) (neighbours k)) ≤ room
  answered_fits = rw answered_length count_fits

-- a lattice key in a room that suffices
module _ (k room : ℕ) (on : on_lattice k ≡ true) (h : length (neighbours k) ≤ room) (l : room ≤ 1048576) where
  pub listed_on : listed_of k room ≡ Ok (length (neighbours k))
  unfolding listed_of
  listed_on = rw (le-ltb 1048576 room l, on, le-leb (length (neighbours k)) room h)

  pub listing_on : listing_of k room ≡ padded 0 room (neighbours k)
  unfolding held_for
  listing_on = rw listed_on
