-- The closed mesh's edges and triangles, in five lent lists.
use Rattle.std.specs.Prelude.{ℕ, ◌≡◌, Bool, cond, ◌&&◌, List, eqb, leb, length, Ok, Err, Result}
use Rattle.lists.specs.Listing.{room_for, held_for}
use Rattle.lists.specs.Threes.{Three, column0, column1, column2}
use Rattle.refusals.specs.declared.Refusal.TheVariants.{Lengths}
use Rattle.table.specs.Table.{Table, rows}
use Rattle.edges.specs.Edges.{edges}
use Rattle.edges.specs.Listing.{firsts, seconds, answer_if}
use Rattle.tetrahedra.specs.ClosedEdges.{crosses_in, closed_edges}
use Rattle.tetrahedra.specs.ClosedTriangles.{closed_triangles}
use Rattle.cutting.specs.declared.ClosedListed.{ClosedListed}
use Rattle.refusals.specs.declared.Refusal.{Refusal}

-- the answer to the edges by the verdict of the tests: what they refuse, then 6 exactly when they would outgrow their lists
unfoldable pub closed_answer : Result (Unit {0}) Refusal → Table → ℕ → Result ℕ Refusal
unfolding answer_if edges crosses_in
closed_answer v t a = answer_if v (closed_edges (rows t)) a

-- three lists of equal length, at most 1,048,576
abbrev pub three_ok : ℕ → ℕ → ℕ → Bool
three_ok x y z = (eqb x y && eqb x z) && leb x 1048576

-- the answer to the triangles, where the edges have been listed: 2, then 6
abbrev pub cut_answer : Result ℕ Refusal → List (Three ℕ) → ℕ → ℕ → ℕ → Result ℕ Refusal
cut_answer (Ok n) ts x y z = cond (three_ok x y z) (room_for (length ts) x) (Err Lengths)
cut_answer (Err why) ts x y z = Err why

unfoldable pub triangles_answer : Result (Unit {0}) Refusal → Table → ℕ → ℕ → ℕ → ℕ → Result ℕ Refusal
unfolding closed_answer closed_triangles
triangles_answer v t a x y z = cut_answer (closed_answer v t a) (closed_triangles (rows t)) x y z

-- the answers, and what each of the five lists holds
pub record IsClosed (v : Result (Unit {0}) Refusal) (t : Table) (a b x y z : ℕ) (r : ClosedListed) (as' bs is js ks : List ℕ) : Type 0 where
  pub edges : r.edges ≡ closed_answer v t a
  pub first : as' ≡ held_for 0 (closed_answer v t a) a (firsts (closed_edges (rows t)))
  pub second : bs ≡ held_for 0 (closed_answer v t a) b (seconds (closed_edges (rows t)))
  pub triangles : r.triangles ≡ triangles_answer v t a x y z
  pub t0 : is ≡ held_for 0 (triangles_answer v t a x y z) x (column0 (closed_triangles (rows t)))
  pub t1 : js ≡ held_for 0 (triangles_answer v t a x y z) y (column1 (closed_triangles (rows t)))
  pub t2 : ks ≡ held_for 0 (triangles_answer v t a x y z) z (column2 (closed_triangles (rows t)))
