-- The surface that closes, drawn: the answers and lists of `list_closed`, where the tests pass and the edges have room.
-- Assumes nothing.
use Rattle.std.specs.Prelude.{Ok, Err, Result}
use Prim.Native.Nat.{ℕ, ◌≤◌, zero-le}
use native.Mathlib.Nat.{sub-zero}
use mathlib.Core.Path.{◌≡◌, refl, sym, ap, ◌∙◌}
use mathlib.Core.Bool.{true}
use mathlib.Core.List.{List, []}
use lib.Dec.{leb}
use lib.ListN.{length}
use borrow.Author.Tests.{le-leb}
use Rattle.lists.specs.Padding.{padded}
use Rattle.lists.specs.Places.{cleared_from}
use Rattle.lists.specs.Listing.{room_for, held_for}
use Rattle.lists.specs.Threes.{Three, column0, column1, column2}
use Rattle.lists.proofs.Bools.{and_second}
use Rattle.lists.proofs.Writing.{cleared_whole}
use Rattle.table.specs.Table.{Table, rows}
use Rattle.edges.specs.Edges.{Edge}
use Rattle.edges.specs.Listing.{firsts, seconds, answer_if}
use Rattle.edges.specs.declared.Surface.{Surface}
use Rattle.edges.specs.declared.Surface.TheVariants as surface
use Rattle.tetrahedra.specs.ClosedEdges.{closed_edges}
use Rattle.tetrahedra.specs.ClosedTriangles.{closed_triangles}
use Rattle.cutting.specs.declared.ClosedListed.{ClosedListed}
use Rattle.cutting.specs.Closing.{closed_answer, three_ok, cut_answer, triangles_answer, IsClosed}
use Rattle.triangles.specs.Building.{Rooms as Lent, room_for_both}
use Rattle.mesh.specs.declared.Drawn.{Drawn}
use Rattle.mesh.specs.Mesh.{held_in}
use Rattle.mesh.specs.Steps.{Fit, Drawing}
use Rattle.refusals.specs.declared.Refusal.{Refusal}

module _ (v : Result (Unit {0}) Refusal) (t : Table) (a b : ℕ) (l : Lent) (fit : Fit v l) (c : ClosedListed) (f' s' x' y' z' : List ℕ)
    (h : IsClosed v t a b l.t0 l.t1 l.t2 c f' s' x' y' z') where
  abbrev es : List Edge
  es = closed_edges (rows t)

  abbrev ts : List (Three ℕ)
  ts = closed_triangles (rows t)

  answered : closed_answer v t a ≡ room_for (length es) a
  unfolding closed_answer answer_if
  answered = ap (λ (w : Result (Unit {0}) Refusal). answer_if w es a) fit.passed

  three : three_ok l.t0 l.t1 l.t2 ≡ true
  three = and_second (leb l.groups 1048576) _ fit.rest

  module _ (fits : length es ≤ a) where
    count : closed_answer v t a ≡ Ok (length es)
    count = answered ∙ rw (le-leb (length es) a fits)

    cut : triangles_answer v t a l.t0 l.t1 l.t2 ≡ room_for (length ts) l.t0
    unfolding triangles_answer
    cut = ap (λ (e : Result ℕ Refusal). cut_answer e ts l.t0 l.t1 l.t2) count ∙ rw three

    -- a list of triangles' numbers, where they have room
    held_as : (room : ℕ) (xs k : List ℕ)
        → k ≡ held_for 0 (triangles_answer v t a l.t0 l.t1 l.t2) room xs
        → (j : ℕ)
        → c.triangles ≡ Ok j
        → k ≡ padded 0 room xs
    unfolding held_for
    held_as room xs k was j q = was ∙ ap (λ (e : Result ℕ Refusal). held_for 0 e room xs) (sym h.triangles ∙ q)

  -- no groups have room anywhere
  no_groups : (n room : ℕ) → room_for n room ≡ room_for_both 0 l.groups n room
  no_groups n room = rw (le-leb 0 l.groups zero-le)

  pub drawn_closed : (g g' : List ℕ)
      → length g ≡ l.groups
      → g' ≡ cleared_from 0 0 g
      → Drawing surface.Closed t a b l (record { edges = c.edges; built = c.triangles }) f' s' g' x' y' z'
  unfolding held_for padded
  drawn_closed g g' long cleared =
      record {
        edges = h.edges ∙ answered;
        first = λ fits. h.first ∙ ap (λ (e : Result ℕ Refusal). held_for 0 e a (firsts es)) (count fits);
        second = λ fits. h.second ∙ ap (λ (e : Result ℕ Refusal). held_for 0 e b (seconds es)) (count fits);
        built = λ fits. h.triangles ∙ cut fits ∙ no_groups (length ts) l.t0;
        groups = λ fits j q. cleared ∙ cleared_whole 0 g ∙ rw (long, sub-zero);
        t0 = λ fits. held_as fits l.t0 (column0 ts) x' h.t0;
        t1 = λ fits. held_as fits l.t1 (column1 ts) y' h.t1;
        t2 = λ fits. held_as fits l.t2 (column2 ts) z' h.t2;
      }

-- the surface that is meant
pub drawn_as : (o o' : Surface) (t : Table) (a b : ℕ) (l : Lent) (d : Drawn) (f' s' g' x' y' z' : List ℕ)
    → o ≡ o'
    → Drawing o' t a b l d f' s' g' x' y' z'
    → Drawing o t a b l d f' s' g' x' y' z'
drawn_as o o' t a b l d f' s' g' x' y' z' e h = rw e h

-- a list of no places holds nothing
pub nothing_held : (a : Result (ℕ × ℕ) Refusal) → [] ≡ held_in {A = ℕ} 0 a 0 []
unfolding held_in padded
nothing_held (Ok (i, j)) = refl
nothing_held (Err why) = refl
