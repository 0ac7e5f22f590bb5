-- What the scan lists on an accepted table are the closed edges, so the two lists hold them, and what was put from the front stands there where it has
-- room.
-- Assumes nothing.
use Rattle.std.specs.Prelude.{Ok, Err, Result}
use Prim.Native.Nat.{ℕ, ◌-◌}
use native.Mathlib.Omega.{arith}
use mathlib.Core.Path.{◌≡◌, refl, sym, ap, ◌∙◌}
use mathlib.Core.Bool.{true, ◌&&◌}
use mathlib.Core.List.{List, map}
use lib.Dec.{eqb}
use lib.Ieee.{Float}
use lib.ListN.{length, replicate, length-map}
use lib.Seq.{sets, length-sets}
use borrow.Author.Tests.{le-leb, eqb-true}
use Rattle.lists.specs.Padding.{padded}
use Rattle.lists.specs.Places.{cleared_from}
use Rattle.lists.specs.Listing.{room_for, count_of, held_for}
use Rattle.lists.specs.Threes.{Three, column0, column1, column2}
use Rattle.lists.proofs.Bools.{and_first, and_second, and_eq}
use Rattle.lists.proofs.Held.{written_held, refused_held}
use Rattle.lists.proofs.PaddingLaws.{padded_length}
use Rattle.refusals.specs.declared.Refusal.{Refusal}
use Rattle.table.specs.Table.{Row, Table, table, rows}
use Rattle.edges.specs.Edges.{Edge}
use Rattle.edges.specs.Surfaces.{edges_on}
use Rattle.edges.specs.Listing.{firsts, seconds, answer_if}
use Rattle.edges.specs.Steps.{Tested}
use Rattle.edges.specs.declared.Surface.TheVariants as surface
use Rattle.edges.proofs.AnswerLaws.{outputs_same, cleared_held}
use Rattle.edges.proofs.ListingLaws.{rows_rise}
use Rattle.edges.proofs.Calls.{counted_only}
use Rattle.groups.proofs.CountingLaws.{edges_back}
use Rattle.tetrahedra.specs.ClosedEdges.{closed_edges}
use Rattle.tetrahedra.specs.ClosedTriangles.{closed_triangles}
use Rattle.tetrahedra.proofs.ScanLaws.{closed_edges_scan}
use Rattle.cutting.specs.Steps.{Puts, OwnIf, IsCut}
use Rattle.cutting.specs.Closing.{closed_answer, three_ok, cut_answer, triangles_answer}

module _ (v : Result (Unit {0}) Refusal) (ks : List ℕ) (ds ws : List Float) (cnt a b : ℕ) (tested : Tested v ks ds ws cnt a b) where
  abbrev t : Table
  t = table ks ds ws cnt

  abbrev es : List Edge
  es = edges_on surface.Closed (rows t)

  -- where the tests pass, the scan finds the closed edges
  scanned : v ≡ (Ok tt) → es ≡ closed_edges (rows t)
  scanned pass = closed_edges_scan (rows t) (rows_rise ks ds ws cnt (tested pass).0)

  pub closed_answer_lem : answer_if v es a ≡ closed_answer v t a
  unfolding closed_answer answer_if
  closed_answer_lem = go v refl
    where
      go : (c : Result (Unit {0}) Refusal) → v ≡ c → answer_if c es a ≡ answer_if c (closed_edges (rows t)) a
      go (Ok tt) q = ap (λ (xs : List Edge). room_for (length xs) a) (scanned q)
      go (Err why) q = refl

  -- a list that holds a column of what the scan finds holds that of the closed edges
  pub column_closed : (f : Edge → ℕ) (room : ℕ)
      → held_for 0 (answer_if v es a) room (map f es) ≡ held_for 0 (closed_answer v t a) room (map f (closed_edges (rows t)))
  unfolding answer_if held_for
  column_closed f room = go v refl ∙ ap (λ (l : Result ℕ Refusal). held_for 0 l room (map f (closed_edges (rows t)))) closed_answer_lem
    where
      go : (c : Result (Unit {0}) Refusal) → v ≡ c → held_for 0 (answer_if c es a) room (map f es) ≡ held_for 0 (answer_if c es a) room (map f (closed_edges (rows t)))
      go (Ok tt) q = ap (λ (xs : List Edge). held_for 0 (room_for (length es) a) room (map f xs)) (scanned q)
      go (Err why) q = refl

  module _ (e : Result ℕ Refusal) (answer : e ≡ answer_if v es a) where
    -- a list that holds such a column, by the answer
    pub held_closed : (f : Edge → ℕ) (room : ℕ) (l : List ℕ)
        → l ≡ held_for 0 e room (map f es)
        → l ≡ held_for 0 (closed_answer v t a) room (map f (closed_edges (rows t)))
    held_closed f room l h = h ∙ ap (λ (x : Result ℕ Refusal). held_for 0 x room (map f es)) answer ∙ column_closed f room

    -- the two lists hold the closed edges of an accepted table
    pub own_listed : (f' s' : List ℕ) → f' ≡ held_for 0 e a (firsts es) → s' ≡ held_for 0 e b (seconds es) → OwnIf e ks ds ws cnt f' s'
    unfolding held_for padded
    own_listed f' s' p q n h =
        let c = counted_only v es a n (sym answer ∙ h) in
        let acc = tested c.0 in
        let outputs = acc.1 in
        let fd : f' ≡ padded 0 a (firsts es) = p ∙ ap (λ (x : Result ℕ Refusal). held_for 0 x a (firsts es)) h in
        let sd : s' ≡ padded 0 b (seconds es) = q ∙ ap (λ (x : Result ℕ Refusal). held_for 0 x b (seconds es)) h in
        let fl : length f' ≡ a = ap length fd ∙ padded_length 0 a (firsts es) (omega (arith, length-map es (λ (x : Edge). x.first), c.2)) in
        let sl : length s' ≡ b =
        ap length sd ∙ padded_length 0 b (seconds es) (omega (arith, length-map es (λ (x : Edge). x.second), outputs_same a b outputs, c.2)) in
        record {
          accepted = acc.0;
          pairs =
              rw (fl, sl, c.1)
              (and_eq (and_first (eqb a b) _ outputs) (and_eq (and_second (eqb a b) _ outputs) (le-leb (length es) a c.2)));
          edges =
              rw (fd, sd, c.1) (edges_back es (replicate (a - length (firsts es)) 0) (replicate (b - length (seconds es)) 0)) ∙ scanned c.0;
        }

-- ---- triangles that were put from the front

-- three lengths that are taken are the same
pub even_three : (x y z : ℕ) → three_ok x y z ≡ true → (y ≡ x) × (z ≡ x)
even_three x y z ok =
    let both = and_first (eqb x y && eqb x z) _ ok in
    (sym (eqb-true x y (and_first (eqb x y) _ both)), sym (eqb-true x z (and_second (eqb x y) _ both)))

module _ (rs : List Row) (x y z : List ℕ) (n : ℕ) (x' y' z' : List ℕ) (w : Puts (closed_triangles rs) 0 x y z n x' y' z')
    (ok : three_ok (length x) (length y) (length z) ≡ true) (r : Result ℕ Refusal) (told : r ≡ room_for n (length x')) where
  abbrev ts : List (Three ℕ)
  ts = closed_triangles rs

  room : r ≡ room_for n (length x)
  room = told ∙ ap (λ (l : ℕ). room_for n l) (ap length w.ones ∙ length-sets x 0 (column0 ts))

  counted : n ≡ length ts
  counted = omega (arith, w.count)

  same : (length y ≡ length x) × (length z ≡ length x)
  same = even_three (length x) (length y) (length z) ok

  -- one list
  column_put : (f : Three ℕ → ℕ) (l l' : List ℕ)
      → length l ≡ length x
      → l' ≡ sets l 0 (map f ts)
      → cleared_from 0 (count_of r) l' ≡ held_for 0 r (length l) (map f ts)
  column_put f l l' long q = rw (room, ← long) (written_held 0 l (map f ts) n l' (counted ∙ sym (length-map ts f)) q)

  pub put_cut : (m : ℕ) → IsCut (Ok m) rs x y z r x' y' z'
  put_cut m =
      record {
        answer = rw ok (room ∙ ap (λ (k : ℕ). room_for k (length x)) counted);
        t0 = column_put (λ (t : Three ℕ). t.a) x x' refl w.ones;
        t1 = column_put (λ (t : Three ℕ). t.b) y y' same.0 w.twos;
        t2 = column_put (λ (t : Three ℕ). t.c) z z' same.1 w.threes;
      }

-- and where nothing is put, since it is refused
pub refused_cut : (e : Result ℕ Refusal) (rs : List Row) (x y z : List ℕ) (why : Refusal)
    → Err why ≡ cut_answer e (closed_triangles rs) (length x) (length y) (length z)
    → IsCut e rs x y z (Err why) x y z
refused_cut e rs x y z why q =
    let ts = closed_triangles rs in
    record {
      answer = q;
      t0 = refused_held 0 why x (column0 ts);
      t1 = refused_held 0 why y (column1 ts);
      t2 = refused_held 0 why z (column2 ts);
    }

-- ---- the whole call

pub cut_answered : (v : Result (Unit {0}) Refusal) (t : Table) (a x y z : ℕ) (e r : Result ℕ Refusal)
    → e ≡ closed_answer v t a
    → r ≡ cut_answer e (closed_triangles (rows t)) x y z
    → r ≡ triangles_answer v t a x y z
unfolding triangles_answer
cut_answered v t a x y z e r p q = q ∙ ap (λ (l : Result ℕ Refusal). cut_answer l (closed_triangles (rows t)) x y z) p

pub cleared_to : (r a : Result ℕ Refusal) → r ≡ a → (n : ℕ) → n ≡ count_of r
    → (l l' : List ℕ) (room : ℕ) (xs : List ℕ)
    → l' ≡ cleared_from 0 n l
    → cleared_from 0 (count_of r) l ≡ held_for 0 r room xs
    → l' ≡ held_for 0 a room xs
cleared_to r a e n c l l' room xs w h = cleared_held r n c l l' room xs w h ∙ ap (λ (x : Result ℕ Refusal). held_for 0 x room xs) e
