-- What a passed check tells the work behind it, and what the list holds after it.
-- Assumes nothing.
use Rattle.std.specs.Prelude.{Ok, Result}
use Prim.Native.Nat.{ℕ}
use mathlib.Core.Path.{◌≡◌, ap, ◌∙◌}
use mathlib.Core.List.{List}
use lib.Dec.{leb}
use lib.Ieee.{Float}
use lib.ListN.{length}
use lib.Seq.{sets, length-sets}
use Rattle.lists.specs.Places.{cleared_from}
use Rattle.lists.specs.Listing.{room_for, count_of, held_for}
use Rattle.lists.proofs.Held.{written_held}
use Rattle.table.specs.declared.Settings.{Settings}
use Rattle.table.specs.Table.{Table, table, rows, check_with}
use Rattle.table.proofs.Checking.{with_passed, went_on}
use Rattle.tsdf_surveys.specs.Surface.{surface_keys, list_check, listed_if, surface_listed}
use Rattle.tsdf_questions.specs.Steps.{Accepted}
use Rattle.tsdf_questions.proofs.Answers.{accepted}
use Rattle.refusals.specs.declared.Refusal.{Refusal}

-- ---- what the tests tell

pub list_accepted :
    (s : Settings) (ks : List ℕ) (ds ws : List Float) (n : ℕ) (threshold : Float) (room : ℕ)
    → list_check s (table ks ds ws n) threshold room ≡ (Ok tt)
    → Accepted (table ks ds ws n)
unfolding list_check
list_accepted s ks ds ws n threshold room e =
    accepted s ks ds ws n (with_passed (leb room 1048576) s (table ks ds ws n) (went_on (check_with (leb room 1048576) s (table ks ds ws n)) _ e).0).1

-- ---- the surface's cells

-- found and written, the answer r is by the list's room
module _ (xs l : List ℕ) (n : ℕ) (l' : List ℕ) (e : n ≡ length xs) (w : l' ≡ sets l 0 xs) (r : Result ℕ Refusal) (told : r ≡ room_for n (length l')) where
  by_room : r ≡ room_for n (length l)
  by_room = told ∙ ap (λ (k : ℕ). room_for n k) (ap length w ∙ length-sets l 0 xs)

  pub answer_room : r ≡ listed_if (Ok tt) xs (length l)
  unfolding listed_if
  answer_room = by_room ∙ ap (λ (k : ℕ). room_for k (length l)) e

  pub keys_held : cleared_from 0 (count_of r) l' ≡ held_for 0 r (length l) xs
  keys_held = rw by_room (written_held 0 l xs n l' e w)

-- the whole call: its verdict v, and its answer r
module _ (s : Settings) (t : Table) (threshold : Float) (room : ℕ) (v : Result (Unit {0}) Refusal)
    (verdict : v ≡ list_check s t threshold room) (r : Result ℕ Refusal)
    (answer : r ≡ listed_if v (surface_keys threshold (rows t)) room) where
  pub answered : r ≡ surface_listed s t threshold room
  unfolding surface_listed
  answered = answer ∙ ap (λ (c : Result (Unit {0}) Refusal). listed_if c (surface_keys threshold (rows t)) room) verdict

  pub cleared_to :
      (n : ℕ)
      → n ≡ count_of r
      → (l l' : List ℕ)
      → l' ≡ cleared_from 0 n l
      → cleared_from 0 (count_of r) l ≡ held_for 0 r room (surface_keys threshold (rows t))
      → l' ≡ held_for 0 (surface_listed s t threshold room) room (surface_keys threshold (rows t))
  cleared_to n c l l' w h =
      w ∙ ap (λ (k : ℕ). cleared_from 0 k l) c ∙ h ∙ ap (λ (x : Result ℕ Refusal). held_for 0 x room (surface_keys threshold (rows t))) answered
