-- What a list holds once its answer is known: what was written from the front stands there where it has room, and all is cleared where it has not.
-- Assumes nothing.
use Rattle.std.specs.Prelude.{Ok, Err, Result}
use Prim.Native.Nat.{ℕ}
use native.Mathlib.Nat.{sub-zero}
use native.Mathlib.Omega.{arith}
use mathlib.Core.Path.{◌≡◌, ap, ◌∙◌}
use mathlib.Core.Bool.{Bool, cond}
use mathlib.Core.List.{List}
use lib.Dec.{leb}
use lib.ListN.{length, take}
use lib.Seq.{sets, length-sets}
use borrow.Author.Tests.{leb-true}
use Rattle.refusals.specs.declared.Refusal.{Refusal}
use Rattle.refusals.specs.declared.Refusal.TheVariants.{NoPlace}
use Rattle.lists.specs.Padding.{padded}
use Rattle.lists.specs.Places.{cleared_from}
use Rattle.lists.specs.Listing.{room_for, count_of, held_for}
use Rattle.lists.proofs.Bools.{cases}
use Rattle.lists.proofs.Writing.{sets_front, cleared_whole}

abbrev room_if : Bool → ℕ → Result ℕ Refusal
room_if b n = cond b (Ok n) (Err NoPlace)

module _ {A : Type 0} (v : A) where
  -- nothing is kept where a call is refused
  pub refused_held : (why : Refusal) (l xs : List A) → cleared_from v 0 l ≡ held_for v (Err why) (length l) xs
  unfolding held_for
  refused_held why l xs = cleared_whole v l

  -- one list, written from the front and then cleared from its count
  pub written_held : (l xs : List A) (n : ℕ) (l' : List A)
      → n ≡ length xs
      → l' ≡ sets l 0 xs
      → cleared_from v (count_of (room_for n (length l))) l' ≡ held_for v (room_for n (length l)) (length l) xs
  unfolding held_for padded
  written_held l xs n l' e w =
      let long : length l' ≡ length l = ap length w ∙ length-sets l 0 xs in
      cases (λ (b : Bool). cleared_from v (count_of (room_if b n)) l' ≡ held_for v (room_if b n) (length l) xs) (leb n (length l))
      (λ t.
      let front : take n l' ≡ xs = rw (w, e) (sets_front l xs (omega (arith, leb-true n (length l) t))) in
      rw (front, long, e))
      (λ t. rw (long, sub-zero (length l)))
