-- What a caller of `get_zero_crossing_edges` has, by its answer: the tests let an accepted table pass, whose keys ascend, and none of them answers 6.
-- Assumes nothing.
use Rattle.std.specs.Prelude.{Ok, Err, Result}
use Prim.Native.Nat.{ℕ, ◌<◌, ◌≤◌}
use native.Mathlib.Omega.{arith}
use mathlib.Core.Path.{◌≡◌, refl}
use mathlib.Core.Logic.{◌↔◌}
use mathlib.Core.Bool.{Bool, cond}
use mathlib.Core.List.{List}
use lib.Dec.{leb}
use lib.ListN.{length, replicate}
use borrow.Author.Tests.{leb-true, leb-false, lt-leb}
use Rattle.lists.specs.Padding.{padded}
use Rattle.lists.specs.Listing.{room_for, held_for}
use Rattle.lists.proofs.Bools.{cases}
use Rattle.neighbors.specs.Neighbors.{neighbours, adjacent}
use Rattle.refusals.specs.declared.Refusal.{Refusal}
use Rattle.refusals.specs.declared.Refusal.TheVariants.{NoPlace}
use Rattle.table.specs.Table.{Table, rows}
use Rattle.table.specs.declared.Settings.{Settings}
use Rattle.table.proofs.Checking.{not_passed, with_spares}
use Rattle.edges.specs.Edges.{Edge}
use Rattle.edges.specs.EdgeList.{IsEdgeList}
use Rattle.edges.specs.ZeroCrossing.{crosses_zero, zero_crossing_edges}
use Rattle.edges.specs.Surfaces.{edges_on}
use Rattle.edges.specs.declared.Surface.{Surface}
use Rattle.edges.specs.declared.Surface.TheVariants.{Open}
use Rattle.edges.specs.Listing.{firsts, seconds, outputs_ok, checked_for, answer_if, crossings_answer, firsts_on, seconds_on, edges_answer, firsts_held, seconds_held}
use Rattle.edges.proofs.AnswerLaws.{accepted}
use Rattle.edges.proofs.ListingLaws.{rows_rise}
use Rattle.edges.proofs.ZeroCrossingLaws.{demand_3_edges}

-- ---- the room, for any verdict and any list

-- n entries are refused exactly when they are more than the room
room_refuses : (n room : ℕ) → (room_for n room ≡ Err NoPlace) ↔ (room < n)
room_refuses n room = (
  cases (λ (t : Bool). cond t (Ok n) (Err NoPlace) ≡ Err NoPlace → room < n) (leb n room)
      (λ q e. let z : ◌≡◌ {A = ℕ} 0 1 = cc in let un : ⊥ = omega arith in absurd un)
      (λ q e. leb-false n room q),
  λ h. rw (lt-leb n room h),
)

room_counts : (n room c : ℕ) → room_for n room ≡ Ok c → (c ≡ n) × (n ≤ room)
room_counts n room c =
    cases (λ (t : Bool). cond t (Ok n) (Err NoPlace) ≡ Ok c → (c ≡ n) × (n ≤ room)) (leb n room)
    (λ q e. let same : c ≡ n = cc in (same, leb-true n room q))
    (λ q e. let z : ◌≡◌ {A = ℕ} 0 1 = cc in let un : ⊥ = omega arith in absurd un)

-- Where no test answers 6: refused with 6 exactly when the tests pass and the list is longer than the room.
pub room_clause :
    (v : Result (Unit {0}) Refusal)
    → (v ≡ Err NoPlace → ⊥)
    → (es : List Edge) (room : ℕ)
    → (answer_if v es room ≡ Err NoPlace) ↔ ((v ≡ (Ok tt)) × (room < length es))
unfolding answer_if
room_clause (Ok tt) h es room = (λ e. (refl, (room_refuses (length es) room).0 e), λ p. (room_refuses (length es) room).1 p.1)
room_clause (Err why) h es room = (λ e. absurd (h (cc)), λ p. absurd (not_passed why p.0))

-- a count is answered only where the tests pass, and is that of the list, which has room
pub counted_only : (v : Result (Unit {0}) Refusal) (es : List Edge) (room c : ℕ) → answer_if v es room ≡ Ok c → (v ≡ (Ok tt)) × (c ≡ length es) × (length es ≤ room)
unfolding answer_if
counted_only (Ok tt) es room c e = let h = room_counts (length es) room c e in (refl, h.0, h.1)
counted_only (Err why) es room c e = let z : ◌≡◌ {A = ℕ} 0 1 = cc in let un : ⊥ = omega arith in absurd un

-- ---- the tests

module _ (s : Settings) (t : Table) (a b : ℕ) where
  -- no test answers 6
  tests_spare_room : checked_for s t a b ≡ Err NoPlace → ⊥
  tests_spare_room = with_spares (outputs_ok a b) s t

  -- ---- the call for a surface's edges

  module _ (o : Surface) where
    -- Refused with 6 exactly when no earlier test refuses and the list would be longer than lent.
    pub refused_for_room_on : (crossings_answer o s t a b ≡ Err NoPlace) ↔ ((checked_for s t a b ≡ (Ok tt)) × (a < length (edges_on o (rows t))))
    unfolding crossings_answer
    refused_for_room_on = room_clause (checked_for s t a b) tests_spare_room (edges_on o (rows t)) a

    -- Answered with a count, the tests passed, the count is the list's length, and the two lists hold it and then zeros.
    pub answered_on : (n : ℕ) → crossings_answer o s t a b ≡ Ok n →
        (checked_for s t a b ≡ (Ok tt))
        × (n ≡ length (edges_on o (rows t)))
        × (firsts_on o s t a b ≡ padded 0 a (firsts (edges_on o (rows t))))
        × (seconds_on o s t a b ≡ padded 0 b (seconds (edges_on o (rows t))))
    unfolding crossings_answer held_for
    answered_on n e = let h = counted_only (checked_for s t a b) (edges_on o (rows t)) a n e in (h.0, h.1, rw e, rw e)

    -- Refused, both lists are zeros throughout.
    pub refused_with_zeros_on :
        (why : Refusal)
        → crossings_answer o s t a b ≡ Err why
        → (firsts_on o s t a b ≡ replicate a 0) × (seconds_on o s t a b ≡ replicate b 0)
    unfolding held_for
    refused_with_zeros_on why e = (rw e, rw e)

  -- ---- the call for the zero crossings

  abbrev es : List Edge
  es = zero_crossing_edges (rows t)

  -- The list of an accepted table is the edge list of demand 3.
  pub accepted_edges : checked_for s t a b ≡ (Ok tt) → IsEdgeList neighbours adjacent crosses_zero (rows t) es
  accepted_edges e =
      demand_3_edges (rows t)
      (rows_rise t.keys t.distances t.weights t.count (accepted s t.keys t.distances t.weights t.count a b e).0)

  -- Refused with 6 exactly when no earlier test refuses and the list would be longer than lent.
  pub refused_for_room : (edges_answer s t a b ≡ Err NoPlace) ↔ ((checked_for s t a b ≡ (Ok tt)) × (a < length es))
  refused_for_room = refused_for_room_on Open

  -- Answered with a count, the two lists hold the edge list and then zeros, and the count is its length.
  pub answered_with_edges : (n : ℕ) → edges_answer s t a b ≡ Ok n →
      IsEdgeList neighbours adjacent crosses_zero (rows t) es
      × (n ≡ length es)
      × (firsts_held s t a b ≡ padded 0 a (firsts es))
      × (seconds_held s t a b ≡ padded 0 b (seconds es))
  answered_with_edges n e = let h = answered_on Open n e in (accepted_edges h.0, h.1, h.2, h.3)

  -- Refused, both lists are zeros throughout.
  pub refused_with_zeros :
      (why : Refusal)
      → edges_answer s t a b ≡ Err why
      → (firsts_held s t a b ≡ replicate a 0) × (seconds_held s t a b ≡ replicate b 0)
  refused_with_zeros = refused_with_zeros_on Open
