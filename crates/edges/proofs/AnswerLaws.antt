-- What the tests tell, and what the lists hold in the end.
-- Assumes nothing.
use Rattle.std.specs.Prelude.{Ok, Result}
use Prim.Native.Nat.{ℕ}
use native.Mathlib.Omega.{arith}
use mathlib.Core.Path.{◌≡◌, sym, ap, ◌∙◌}
use mathlib.Core.Bool.{true}
use mathlib.Core.List.{List}
use lib.Dec.{eqb}
use lib.Ieee.{Float}
use lib.ListN.{length, length-map}
use lib.Seq.{length-sets}
use borrow.Author.Tests.{eqb-true}
use Rattle.lists.specs.Places.{cleared_from}
use Rattle.lists.specs.Listing.{room_for, count_of, held_for}
use Rattle.lists.proofs.Bools.{and_first}
use Rattle.lists.proofs.Held.{written_held}
use Rattle.table.specs.Table.{Table, table, rows}
use Rattle.table.specs.declared.Settings.{Settings}
use Rattle.table.proofs.RowLaws.{lengths_known}
use Rattle.table.proofs.Checking.{sound, with_passed}
use Rattle.edges.specs.Edges.{Edge}
use Rattle.edges.specs.Surfaces.{edges_on}
use Rattle.edges.specs.declared.Surface.{Surface}
use Rattle.edges.specs.Listing.{firsts, seconds, outputs_ok, checked_for, answer_if, crossings_answer}
use Rattle.edges.specs.Steps.{Accepted, Wrote}
use Rattle.refusals.specs.declared.Refusal.{Refusal}

-- ---- what the tests tell

-- two lists that fit are equally long
pub outputs_same : (a b : ℕ) → outputs_ok a b ≡ true → b ≡ a
outputs_same a b p = sym (eqb-true a b (and_first (eqb a b) _ p))

pub accepted :
    (s : Settings) (ks : List ℕ) (ds ws : List Float) (n a b : ℕ)
    → checked_for s (table ks ds ws n) a b ≡ (Ok tt)
    → Accepted (table ks ds ws n) × (outputs_ok a b ≡ true)
accepted s ks ds ws n a b e =
    let p = with_passed (outputs_ok a b) s (table ks ds ws n) e in
    let k = sound s (table ks ds ws n) p.1 in
    let l = lengths_known (length ks) (length ds) (length ws) n k.lengths in
    (record { fits = l.0; distances = l.1; weights = l.2; few = l.3; rising = k.order }, p.0)

-- ---- what the lists hold

module _ (es : List Edge) (first second : List ℕ) (n : ℕ) (first' second' : List ℕ)
    (w : Wrote es 0 first second n first' second') (r : Result ℕ Refusal) (told : r ≡ room_for n (length first')) where
  e : r ≡ room_for n (length first)
  e = told ∙ ap (λ (l : ℕ). room_for n l) (ap length w.ones ∙ length-sets first 0 (firsts es))

  counted : n ≡ length es
  counted = omega (arith, w.count)

  pub answer_room : r ≡ answer_if (Ok tt) es (length first)
  unfolding answer_if
  answer_room = e ∙ ap (λ (k : ℕ). room_for k (length first)) counted

  pub firsts_held : cleared_from 0 (count_of r) first' ≡ held_for 0 r (length first) (firsts es)
  firsts_held = rw e (written_held 0 first (firsts es) n first' (counted ∙ sym (length-map es (λ (x : Edge). x.first))) w.ones)

  pub seconds_held : length second ≡ length first → cleared_from 0 (count_of r) second' ≡ held_for 0 r (length second) (seconds es)
  seconds_held h = rw (e, ← h) (written_held 0 second (seconds es) n second' (counted ∙ sym (length-map es (λ (x : Edge). x.second))) w.others)

-- the places past a count are cleared
pub cleared_held :
    (r : Result ℕ Refusal) (n : ℕ)
    → n ≡ count_of r
    → (l l' : List ℕ) (room : ℕ) (xs : List ℕ)
    → l' ≡ cleared_from 0 n l
    → cleared_from 0 (count_of r) l ≡ held_for 0 r room xs
    → l' ≡ held_for 0 r room xs
cleared_held r n c l l' room xs w h = w ∙ ap (λ (k : ℕ). cleared_from 0 k l) c ∙ h

-- the whole call: the verdict v and the answer r
module _ (o : Surface) (s : Settings) (t : Table) (a b : ℕ) (v : Result (Unit {0}) Refusal) (verdict : v ≡ checked_for s t a b) (r : Result ℕ Refusal)
    (answer : r ≡ answer_if v (edges_on o (rows t)) a) where
  pub answered : r ≡ crossings_answer o s t a b
  unfolding crossings_answer
  answered = answer ∙ ap (λ (c : Result (Unit {0}) Refusal). answer_if c (edges_on o (rows t)) a) verdict

  pub held_by : (l : List ℕ) (room : ℕ) (xs : List ℕ) → l ≡ held_for 0 r room xs → l ≡ held_for 0 (crossings_answer o s t a b) room xs
  held_by l room xs h = h ∙ ap (λ (x : Result ℕ Refusal). held_for 0 x room xs) answered
